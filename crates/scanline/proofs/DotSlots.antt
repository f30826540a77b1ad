-- Laws on the dot slots of a scanline: one slot more, and all of them.
use Rattle.std.proofs.Common.{◌≡◌, ℕ, ◌+◌, ◌*◌, ◌≤◌, List, ◌++◌, length, take, sym, refl, ap, add-one, arith, length-append}
use Rattle.std.proofs.lemmas.Slice.{take-put_mid}
use lib.Seq.{take_all}
use borrow.Rule.Slice.PartMut.{put_mid}
use Rattle.lists.proofs.Laws.{length_tab}
use Rattle.nick.specs.External.{dot_colour}
use Rattle.nick.specs.Scanline.{dot_at, active_at, past_slot, pointers_after, slot_addresses, slots_fetched, slot_dots, slots_dots, begun_dots, begun_fetches}
use Rattle.nick.specs.declared.Registers.{Registers}
use Rattle.nick.specs.declared.Pointers.{Pointers}
use Rattle.nick.specs.declared.Block.{Block}
use Rattle.nick.specs.declared.Scan.{Scan}
use Rattle.scanline.specs.PaintedLine.{slots_end}

length_slot : (g : Registers) (ram : List ℕ) (b : Block) (n : ℕ) (q : Pointers) (ext : ℕ → ℕ) → length (slot_dots g ram b n q ext) ≡ 16
unfolding slot_dots
length_slot g ram b n q ext = length_tab (λ j. dot_colour g b (dot_at (active_at b n) ram b q j) (ext (16 * n + j))) 16

-- one slot more, painted into its part of the scanline
pub slot_more : (g : Registers) (ram : List ℕ) (b : Block) (p q : Pointers) (ext : ℕ → ℕ) (n k : ℕ) (out dots : List ℕ)
    → take (16 * n) out ≡ slots_dots g ram b n p ext
    → 16 * n ≤ length out
    → q ≡ pointers_after b n p
    → dots ≡ slot_dots g ram b n q ext
    → take (16 * (n + 1)) (put_mid (16 * n) k out dots) ≡ slots_dots g ram b (n + 1) p ext
slot_more g ram b p q ext n k out dots held fits at e =
    let size : length dots ≡ 16 = rw e (length_slot g ram b n q ext) in
    let front : take (16 * (n + 1)) (put_mid (16 * n) k out dots) ≡ take (16 * n) out ++ dots = take-put_mid (16 * n) k out dots (16 * (n + 1)) (omega arith) fits in
    rw (front, held, e, at, add-one n) refl

-- the pointers after it
pub at_more : (b : Block) (n : ℕ) (p q : Pointers) → q ≡ pointers_after b n p → past_slot (active_at b n) b q ≡ pointers_after b (n + 1) p
at_more b n p q e = rw (e, add-one n) refl

-- one slot more is fetched
pub fetched_more : (ram : List ℕ) (b : Block) (n : ℕ) (p q : Pointers) (k : ℕ)
    → q ≡ pointers_after b n p
    → k ≡ length (slots_fetched ram b n p)
    → k + length (slot_addresses (active_at b n) ram b q) ≡ length (slots_fetched ram b (n + 1) p)
fetched_more ram b n p q k e f =
    rw (e, f, add-one n) (sym (length-append (slots_fetched ram b n p) (slot_addresses (active_at b n) ram b (pointers_after b n p))))

-- the 46 slots are the whole scanline
pub whole_line : (n : ℕ) (out : List ℕ) → n ≡ 46 → length out ≡ 736 → take (16 * n) out ≡ out
whole_line n out all size = take_all (16 * n) out (omega arith)

module _ (g : Registers) (ram : List ℕ) (c : Scan) (n : ℕ) (all : n ≡ 46) where
  pub all_dots : (ext : ℕ → ℕ) → begun_dots g ram c ext ≡ slots_dots g ram c.block n c.at ext
  unfolding begun_dots
  all_dots ext = ap (λ (k : ℕ). slots_dots g ram c.block k c.at ext) (sym all)

  pub all_at : slots_end c ≡ pointers_after c.block n c.at
  unfolding slots_end
  all_at = ap (λ (k : ℕ). pointers_after c.block k c.at) (sym all)

  pub all_fetched : begun_fetches ram c ≡ slots_fetched ram c.block n c.at
  unfolding begun_fetches
  all_fetched = ap (λ (k : ℕ). slots_fetched ram c.block k c.at) (sym all)
