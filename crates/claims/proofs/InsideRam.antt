-- No block runs past the end of RAM: by induction over the scanlines the scan stays well-formed, so the number of a block that is
-- loaded is at most 4,095, and the last byte of that block is at 65,535.
use mathlib.Core.Path.{◌≡◌, refl, sym}
use mathlib.Core.Bool.{Bool, true, false, cond, ◌||◌, or_assoc}
use mathlib.Core.List.{List, [], ◌∷◌, ◌++◌}
use Prim.Native.Nat.{ℕ, zero, suc, ◌+◌, ◌*◌, ◌<◌}
use native.Mathlib.Omega.{arith}
use borrow.Author.Tests.{le-ltb}
use Rattle.nick.specs.Registers.{zero_pointers, zero_block, written_registers, written_scan, written}
use Rattle.nick.specs.Blocks.{loads, loaded_number, decoded, block_at, loaded, continued, begun}
use Rattle.nick.specs.Slots.{mode_numbered}
use Rattle.nick.specs.Scanline.{ended, next_scan, scan_after}
use Rattle.nick.specs.Refusals.{ill_formed, Formed}
use Rattle.nick.specs.Direct.{load_of, loaded_on_the_way}
use Rattle.nick.specs.Examples.{last_base, last_block}
use Rattle.nick.specs.declared.Registers.{Registers}
use Rattle.nick.specs.declared.Scan.{Scan}
use Rattle.nick.specs.declared.State.{State}
use Rattle.nick.proofs.WellFormed.{formed, number_below, formed_after}
use Rattle.claims.specs.InsideRam.{runs_past_end, any_past_end, past_end, NeverPastEnd}

any_append : (l r : List ℕ) → any_past_end (l ++ r) ≡ any_past_end l || any_past_end r
any_append [] r = refl
any_append (n ∷ l) r = rw (any_append l r) (sym (or_assoc (runs_past_end n) (any_past_end l) (any_past_end r)))

-- the block that the next scanline loads, if it loads one
load_inside : (g : Registers) (c : Scan) → g.lpl < 256 → Formed c → any_past_end (load_of g c) ≡ false
load_inside g c h f = go (loads c)
  where
    go : (t : Bool) → any_past_end (cond t (loaded_number g c ∷ []) []) ≡ false
    go true = rw (le-ltb 65535 (16 * loaded_number g c + 15) (omega (arith, number_below g c h f.number)))
    go false = refl

inside : (g : Registers) (ram : List ℕ) (n : ℕ) (c : Scan) → g.lpl < 256 → Formed c → any_past_end (loaded_on_the_way g ram n c) ≡ false
inside g ram zero c h f = refl
inside g ram (suc n) c h f =
    rw (any_append (loaded_on_the_way g ram n c) (load_of g (scan_after g ram n c)), inside g ram n c h f)
    (load_inside g (scan_after g ram n c) h (formed_after g ram n c h f))

pub never_past_end : NeverPastEnd
never_past_end s ram n h e = inside s.registers ram n s.scan h (formed s.scan e)

-- The case that comes nearest, P10's, is of a well-formed state: the block at 65,520 is loaded, whose last byte is at 65,535, and
-- then the one at 0 (Examples).
pub nearest : (ill_formed last_base.scan ≡ false) × (past_end last_base last_block 2 ≡ false)
unfolding
    written_registers written_scan written loaded_number decoded block_at loaded continued begun mode_numbered ended next_scan
nearest = (refl, refl)

-- Both conditions are needed; RAM is empty, since the first block's number does not come from it. A state whose next scanline
-- loads a block, by LPL, LPH, pending and its block number.
abbrev loading : ℕ → ℕ → Bool → ℕ → State
loading low high due n = record {
  registers = record { fixbias = 0; border = 0; lpl = low; lph = high };
  scan = record { pending = due; block = zero_block; number = n; at = zero_pointers; left = 0 };
  virq = false;
  sync = false;
}

-- from block number 4,096, which refusal 3 meets, with LPH bit 6 clear, that block; with LPL 256 the base, which is that block too
pub beyond : (past_end (loading 0 128 false 4096) [] 1 ≡ true) × (past_end (loading 256 143 true 0) [] 1 ≡ true)
unfolding loaded_number
beyond = (refl, refl)
