-- The refusal table of a comparison, number by number, and what its tests say of a comparison that is not refused.
use mathlib.Core.Path.{◌≡◌, sym}
use mathlib.Core.Bool.{Bool, false, cond}
use mathlib.Core.List.{List}
use Rattle.std.specs.List.{zip}
use Rattle.std.proofs.lemmas.Bool.Decides.{nat_tests}
use Prim.Native.Nat.{ℕ, ◌*◌, ◌<◌, ◌≤◌}
use native.Mathlib.Omega.{arith}
use lib.ListN.{length}
use borrow.Author.Tests.{eq-eqb}
use Rattle.lists.proofs.Tests.{chosen}
use Rattle.nick.specs.Refusals.{bad_height, bad_dots, bad_records, any_stamped}
use Rattle.comparison.specs.Comparison.{Found, found_in, no_side, Told, told, of_side, comparison_refusal, refused, found, comparison}

-- none of the tests applies, to the capture or to the frame
pub record Clear (h : ℕ) (capture capture_records frame frame_records : List ℕ) : Type 0 where
  pub height : bad_height h ≡ false
  pub dots : (bad_dots h capture ≡ false) × (bad_dots h frame ≡ false)
  pub records : (bad_records h capture_records ≡ false) × (bad_records h frame_records ≡ false)
  pub stamps : (any_stamped h capture_records ≡ false) × (any_stamped h frame_records ≡ false)

-- the numbers of a comparison's table, from one on
abbrev table_of : Bool → Bool → Bool → Bool → Bool → Bool → Bool → Told
table_of height dots dots' records records' stamps stamps' =
    cond height (told 5 no_side)
    (of_side 6 dots dots' (of_side 7 records records' (of_side 12 stamps stamps' (told 0 no_side))))

all_false :
    (height dots dots' records records' stamps stamps' : Bool)
    → (table_of height dots dots' records records' stamps stamps').number ≡ 0
    → (height ≡ false) × (dots ≡ false) × (dots' ≡ false) × (records ≡ false) × (records' ≡ false) × (stamps ≡ false) × (stamps' ≡ false)
all_false height dots dots' records records' stamps stamps' h = grind arith

pub record Comparable (h : ℕ) (capture frame : List ℕ) : Type 0 where
  pub some : 0 < h
  pub most : h ≤ 1024
  pub captured : length capture ≡ 736 * h
  pub framed : length frame ≡ 736 * h

module _ (h : ℕ) (capture capture_records frame frame_records : List ℕ) where
  abbrev table : Told
  table = comparison_refusal h capture capture_records frame frame_records

  -- an answer that is found is no refusal
  pub found_is :
      (f : Found)
      → comparison h capture capture_records frame frame_records ≡ found f
      → (table.number ≡ 0) × (f ≡ found_in (zip capture frame))
  unfolding comparison
  found_is f e =
      let (none, is) = chosen table.number (found f) (found (found_in (zip capture frame))) (refused table) (λ z. cc) (sym e) in
      (none, cc)

  module _ (accepted : table.number ≡ 0) where
    pub accepted_is : comparison h capture capture_records frame frame_records ≡ found (found_in (zip capture frame))
    unfolding comparison
    accepted_is = rw (eq-eqb table.number 0 accepted)

    -- no test applies
    pub clear : Clear h capture capture_records frame frame_records
    unfolding comparison_refusal
    clear =
        let (height, dots, dots', records, records', stamps, stamps') = all_false _ _ _ _ _ _ _ accepted in
        record { height = height; dots = (dots, dots'); records = (records, records'); stamps = (stamps, stamps') }

    -- what the tests say of a comparison that is not refused
    pub comparable : Comparable h capture frame
    comparable =
        let c = clear in
        record {
          some = grind (arith, nat_tests);
          most = grind (arith, nat_tests);
          captured = grind (arith, nat_tests);
          framed = grind (arith, nat_tests);
        }

  -- where no test applies, nothing is refused
  pub not_refused : Clear h capture capture_records frame frame_records → table.number ≡ 0
  unfolding comparison_refusal
  not_refused c = rw (c.height, c.dots.0, c.dots.1, c.records.0, c.records.1, c.stamps.0, c.stamps.1)
