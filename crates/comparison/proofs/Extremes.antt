-- The smallest and the largest of some numbers: each is one of them, and none is beyond it. Negated, they change places.
use mathlib.Core.Path.{◌≡◌, refl, sym, ap, ◌∙◌}
use mathlib.Core.Logic.{◌⊎◌, inl, inr}
use mathlib.Core.List.{List, [], ◌∷◌, map, foldl}
use Prim.Native.Nat.{ℕ, zero, suc, ◌<◌}
use native.Mathlib.Omega.{arith}
use lib.IntN.{ℤ, pos, neg_ℤ}
use lib.ListN.{length, get_or}
use lib.Signed.{◌≤ℤ◌}
use Rattle.std.specs.Int.{int_min, int_max}
use Rattle.std.specs.List.{fold, Contains}
use Rattle.std.proofs.lemmas.Int.{ints, fold-int_min_bounds, fold-int_min_reached, fold-int_max_bounds, fold-int_max_reached}
use Rattle.std.proofs.lemmas.List.{get_or_default}
use Rattle.comparison.specs.Comparison.{lesser, greater, range_of}
use Rattle.comparison.specs.Agreement.{turned}
use Rattle.comparison.specs.declared.Range.{Range}

-- ---- the smallest and the largest, as std folds them

greater_is : (a b : ℤ) → greater a b ≡ int_max a b
greater_is a b = grind (arith, ints)

smallest_is : (first : ℤ) (more : List ℤ) → foldl lesser first more ≡ fold int_min first more
smallest_is first [] = refl
smallest_is first (d ∷ more) = smallest_is (lesser first d) more

largest_is : (first : ℤ) (more : List ℤ) → foldl greater first more ≡ fold int_max first more
largest_is first [] = refl
largest_is first (d ∷ more) = largest_is (greater first d) more ∙ ap (λ (z : ℤ). fold int_max z more) (greater_is first d)

-- a number that is at a place of the list
pub record OneOf (z : ℤ) (ds : List ℤ) : Type 0 where
  pub place : ℕ
  pub inside : place < length ds
  pub there : get_or ds place (pos 0) ≡ z

one_of : (z first : ℤ) (more : List ℤ) → (z ≡ first) ⊎ Contains more z → OneOf z (first ∷ more)
one_of z first more (inl e) = record { place = 0; inside = omega arith; there = sym e }
one_of z first more (inr (k, inside, there)) =
    record { place = suc k; inside = omega arith; there = get_or_default more k (pos 0) z inside ∙ there }

-- of a list with a number in it: each of the two is one of its numbers, and every number lies between them
pub record Extremes (ds : List ℤ) (r : Range) : Type 0 where
  pub smallest : OneOf r.smallest ds
  pub largest : OneOf r.largest ds
  pub between : (i : ℕ) → i < length ds → (r.smallest ≤ℤ get_or ds i (pos 0)) × (get_or ds i (pos 0) ≤ℤ r.largest)

pub range_extremes : (ds : List ℤ) → 0 < length ds → Extremes ds (range_of ds)
range_extremes [] h = absurd (omega arith)
range_extremes (first ∷ more) h = record {
  smallest = one_of _ first more (fold-int_min_reached first more _ (smallest_is first more));
  largest = one_of _ first more (fold-int_max_reached first more _ (largest_is first more));
  between = between;
}
  where
    between :
        (i : ℕ)
        → i < length (first ∷ more)
        → (foldl lesser first more ≤ℤ get_or (first ∷ more) i (pos 0))
        × (get_or (first ∷ more) i (pos 0) ≤ℤ foldl greater first more)
    between zero l = (
      (fold-int_min_bounds first more _ (smallest_is first more)).0,
      (fold-int_max_bounds first more _ (largest_is first more)).0,
    )
    between (suc i) l = (
      (fold-int_min_bounds first more _ (smallest_is first more)).1 i (pos 0) (omega arith),
      (fold-int_max_bounds first more _ (largest_is first more)).1 i (pos 0) (omega arith),
    )

-- ---- negation

neg_lesser : (a b : ℤ) → lesser (neg_ℤ a) (neg_ℤ b) ≡ neg_ℤ (greater a b)
neg_lesser a b = grind (arith, ints)

neg_greater : (a b : ℤ) → greater (neg_ℤ a) (neg_ℤ b) ≡ neg_ℤ (lesser a b)
neg_greater a b = grind (arith, ints)

neg_smallest : (first : ℤ) (more : List ℤ) → foldl lesser (neg_ℤ first) (map neg_ℤ more) ≡ neg_ℤ (foldl greater first more)
neg_smallest first [] = refl
neg_smallest first (d ∷ more) =
    ap (λ (z : ℤ). foldl lesser z (map neg_ℤ more)) (neg_lesser first d) ∙ neg_smallest (greater first d) more

neg_largest : (first : ℤ) (more : List ℤ) → foldl greater (neg_ℤ first) (map neg_ℤ more) ≡ neg_ℤ (foldl lesser first more)
neg_largest first [] = refl
neg_largest first (d ∷ more) =
    ap (λ (z : ℤ). foldl greater z (map neg_ℤ more)) (neg_greater first d) ∙ neg_largest (lesser first d) more

-- the range of the negated numbers
pub range_turned : (ds : List ℤ) → range_of (map neg_ℤ ds) ≡ turned (range_of ds)
range_turned [] = refl
range_turned (first ∷ more) = rw (neg_smallest first more, neg_largest first more)
