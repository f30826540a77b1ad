-- A scanline keeps the scan well-formed: block numbers below 4,096, and 1 to 256 scanlines left as it begins. Of the registers
-- LPL has to be a byte; of LPH only LPH mod 16 counts.
use mathlib.Core.Path.{◌≡◌, refl, ◌∙◌}
use mathlib.Core.Bool.{Bool, true, false, true≢false, not, cond, ◌||◌}
use mathlib.Core.List.{List}
use Prim.Native.Nat.{ℕ, zero, suc, ◌*◌, ◌<◌}
use native.Mathlib.Nat.{add-zero}
use native.Mathlib.Omega.{arith}
use borrow.Author.Tests.{eqb-false, ltb-false, le-ltb}
use lib.Dec.{eqb, ltb}
use lib.ListN.{drop}
use lib.Seq.{get_or-take, get_or-drop}
use Rattle.lists.proofs.Tests.{cond_below, or_first, or_rest}
use Rattle.nick.specs.Numbers.{is_set, byte_at}
use Rattle.nick.specs.Registers.{base_number}
use Rattle.nick.specs.Blocks.{reload, loads, loaded_number, decoded, block_at, loaded, continued, begun}
use Rattle.nick.specs.Scanline.{ended, next_scan, scan_after}
use Rattle.nick.specs.Record.{next_state}
use Rattle.nick.specs.Refusals.{ill_formed, Formed}
use Rattle.nick.specs.declared.Registers.{Registers}
use Rattle.nick.specs.declared.Scan.{Scan}
use Rattle.nick.specs.declared.State.{State}

pub formed : (c : Scan) → ill_formed c ≡ false → Formed c
formed c e =
    let left = ltb-false 256 c.left (or_first (ltb 256 c.left) (ltb 4095 c.number) e) in
    let number = ltb-false 4095 c.number (or_rest (ltb 256 c.left) (ltb 4095 c.number) e) in
    record { left = left; number = omega arith }

pub not_ill_formed : (c : Scan) → Formed c → ill_formed c ≡ false
not_ill_formed c f = rw (le-ltb 256 c.left f.left, le-ltb 4095 c.number (omega (arith, f.number)))

base_below : (g : Registers) → g.lpl < 256 → base_number g < 4096
base_below g h = omega arith

pub number_below : (g : Registers) (c : Scan) → g.lpl < 256 → c.number < 4096 → loaded_number g c < 4096
unfolding loaded_number
number_below g c h l =
    cond_below c.pending _ _ 4096 (base_below g h)
    (cond_below (reload c.block) _ _ 4096 (base_below g h)
    (cond_below (not (is_set 6 g.lph)) _ _ 4096 l (omega arith)))

-- the first byte of a block is a byte of RAM
pub block_sc : (ram : List ℕ) (n : ℕ) → (block_at ram n).sc ≡ byte_at ram (16 * n)
unfolding block_at decoded
block_sc ram n =
    get_or-take 16 (drop (16 * n) ram) 0 0 (omega arith) ∙ get_or-drop (16 * n) ram 0 0 ∙ rw (add-zero (16 * n))

module _ (g : Registers) (ram : List ℕ) (c : Scan) where
  -- a scanline that begins is left, SC being a byte
  pub begun_some : (begun g ram c).block.sc < 256 → 0 < (begun g ram c).left
  unfolding begun loaded continued
  begun_some = go (loads c) refl
    where
      none_pending : (p : Bool) (n : ℕ) → p || eqb n 0 ≡ false → 0 < n
      none_pending true n e = absurd (true≢false e)
      none_pending false n e = let h = eqb-false n 0 e in omega arith

      begins : Bool → Scan
      begins t = cond t (loaded g (loaded_number g c) (block_at ram (loaded_number g c))) (continued c)

      go : (t : Bool) → loads c ≡ t → (begins t).block.sc < 256 → 0 < (begins t).left
      go true e sc = omega arith
      go false e sc = none_pending c.pending c.left e

  module _ (low : g.lpl < 256) (f : Formed c) where
    pub begun_formed : Formed (begun g ram c)
    unfolding begun loaded continued
    begun_formed = go (loads c)
      where
        go : (t : Bool) → Formed (cond t (loaded g (loaded_number g c) (block_at ram (loaded_number g c))) (continued c))
        go true = record { left = omega arith; number = number_below g c low f.number }
        go false = record { left = f.left; number = f.number }

    next_formed : Formed (next_scan g ram c)
    unfolding next_scan ended
    next_formed = record { left = omega (arith, begun_formed.left); number = begun_formed.number }

pub formed_after :
    (g : Registers) (ram : List ℕ) (n : ℕ) (c : Scan) → g.lpl < 256 → Formed c → Formed (scan_after g ram n c)
formed_after g ram zero c h f = f
formed_after g ram (suc n) c h f = next_formed g ram (scan_after g ram n c) h (formed_after g ram n c h f)

pub next_state_formed : (ram : List ℕ) (s : State) → s.registers.lpl < 256 → Formed s.scan → Formed (next_state ram s).scan
unfolding next_state
next_state_formed ram s h f = next_formed s.registers ram s.scan h f
