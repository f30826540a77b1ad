-- The first dot that differs: it lies in the buffers, it differs, and every dot before it is equal.
use mathlib.Core.Path.{◌≡◌, refl, sym, ap, ◌∙◌}
use mathlib.Core.Bool.{Bool, true, false, cond}
use mathlib.Core.List.{List, [], ◌∷◌}
use Rattle.std.specs.List.{zip}
use Rattle.std.proofs.lemmas.Slice.Zip.{length-zip}
use Prim.Native.Nat.{ℕ, zero, suc, ◌+◌, ◌*◌, ◌/◌, ◌%◌, ◌<◌}
use native.Mathlib.Omega.{arith}
use lib.Dec.{eqb}
use lib.ListN.{length, get_or}
use borrow.Author.Tests.{eqb-true, eqb-false}
use Rattle.comparison.specs.Comparison.{at, first_from, Found, found_in, found, comparison}
use Rattle.comparison.proofs.RefusalTable.{found_is, comparable}

-- what the first place says of dots that begin at a place
pub record IsFirst (place : ℕ) (dots : List (ℕ × ℕ)) (line dot : ℕ) : Type 0 where
  pub offset : ℕ
  pub there : 736 * line + dot ≡ place + offset
  pub inside : offset < length dots
  pub in_line : dot < 736
  pub differs : (get_or dots offset (0, 0)).0 ≡ (get_or dots offset (0, 0)).1 → ⊥
  pub before : (j : ℕ) → j < offset → (get_or dots j (0, 0)).0 ≡ (get_or dots j (0, 0)).1

-- at the dots' own beginning, and one dot later
first_here :
    (place line dot c f : ℕ) (more : List (ℕ × ℕ))
    → (c ≡ f → ⊥)
    → at (place / 736) (place % 736) ≡ at line dot
    → IsFirst place ((c, f) ∷ more) line dot
first_here place line dot c f more differ e =
    let l : place / 736 ≡ line = cc in
    let d : place % 736 ≡ dot = cc in
    record {
      offset = 0;
      there = omega arith;
      inside = omega arith;
      in_line = omega arith;
      differs = differ;
      before = λ j h. absurd (omega arith);
    }

first_later :
    (place line dot c f : ℕ) (more : List (ℕ × ℕ))
    → c ≡ f
    → IsFirst (suc place) more line dot
    → IsFirst place ((c, f) ∷ more) line dot
first_later place line dot c f more same p = record {
  offset = suc p.offset;
  there = omega (arith, p.there);
  inside = omega (arith, p.inside);
  in_line = p.in_line;
  differs = p.differs;
  before = earlier;
}
  where
    earlier : (j : ℕ) → j < suc p.offset → (get_or ((c, f) ∷ more) j (0, 0)).0 ≡ (get_or ((c, f) ∷ more) j (0, 0)).1
    earlier zero h = same
    earlier (suc j) h = p.before j (omega arith)

pub first_is :
    (place : ℕ) (dots : List (ℕ × ℕ)) (line dot : ℕ) → first_from place dots ≡ at line dot → IsFirst place dots line dot
first_is place [] line dot e = cc
first_is place ((c, f) ∷ more) line dot e = go (eqb c f) refl e (first_is (suc place) more line dot)
  where
    go :
        (t : Bool)
        → eqb c f ≡ t
        → cond t (first_from (suc place) more) (at (place / 736) (place % 736)) ≡ at line dot
        → (first_from (suc place) more ≡ at line dot → IsFirst (suc place) more line dot)
        → IsFirst place ((c, f) ∷ more) line dot
    go true same later ih = first_later place line dot c f more (eqb-true c f same) (ih later)
    go false other here ih = first_here place line dot c f more (eqb-false c f other) here

-- the first dot that an accepted comparison tells lies in both buffers
pub first_inside :
    (h : ℕ) (capture capture_records frame frame_records : List ℕ) (f : Found) (line dot : ℕ)
    → comparison h capture capture_records frame frame_records ≡ found f
    → f.first ≡ at line dot
    → (736 * line + dot < length capture) × (length frame ≡ length capture)
unfolding found_in
first_inside h capture capture_records frame frame_records f line dot e first =
    let (accepted, is) = found_is h capture capture_records frame frame_records f e in
    let sizes = comparable h capture capture_records frame frame_records accepted in
    let same : length frame ≡ length capture = sizes.framed ∙ sym sizes.captured in
    let p = first_is 0 (zip capture frame) line dot (sym (ap (λ (g : Found). g.first) is) ∙ first) in
    (omega (arith, p.there, p.inside, length-zip capture frame), same)
