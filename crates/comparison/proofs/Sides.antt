-- Two sides that agree, and two sides exchanged: the count, the first place and the differences of the dots of both.
use mathlib.Core.Path.{◌≡◌, refl}
use mathlib.Core.Bool.{not, cond}
use mathlib.Core.List.{List, [], ◌∷◌, map}
use Rattle.std.specs.List.{zip}
use Rattle.std.proofs.lemmas.Bool.Decides.{nat_tests}
use Rattle.std.proofs.lemmas.Int.{ints}
use Prim.Native.Nat.{ℕ, suc, ◌+◌}
use native.Mathlib.Omega.{arith}
use lib.Dec.{eqb}
use lib.IntN.{ℤ, pos, neg_ℤ, ◌-ℤ◌, +ℤ_invr}
use lib.ListN.{length}
use borrow.Author.Tests.{eq-eqb}
use Rattle.lists.specs.Number.{number}
use Rattle.nick.specs.Levels.{levels_of}
use Rattle.comparison.specs.Comparison.{Place, none, differing, first_from, level_of, difference, differences}
use Rattle.comparison.specs.declared.Channel.{Channel}

-- ---- two sides that agree

pub same_count : (xs : List ℕ) → differing (zip xs xs) ≡ 0
same_count [] = refl
same_count (x ∷ xs) = rw (eq-eqb x x refl, same_count xs)

pub same_first : (place : ℕ) (xs : List ℕ) → first_from place (zip xs xs) ≡ none
same_first place [] = refl
same_first place (x ∷ xs) = rw (eq-eqb x x refl) (same_first (suc place) xs)

same_head : (x y n : ℕ) (xs ys : List ℕ) → number (not (eqb x y)) + n ≡ 0 → (n ≡ 0 → xs ≡ ys) → x ∷ xs ≡ y ∷ ys
same_head x y n xs ys h same = grind (arith, nat_tests)

pub count_agrees : (xs ys : List ℕ) → length ys ≡ length xs → differing (zip xs ys) ≡ 0 → xs ≡ ys
count_agrees [] [] e h = refl
count_agrees [] (y ∷ ys) e h = absurd (omega arith)
count_agrees (x ∷ xs) [] e h = absurd (omega arith)
count_agrees (x ∷ xs) (y ∷ ys) e h = same_head x y _ xs ys h (count_agrees xs ys (omega arith))

same_place : (x y : ℕ) (later here : Place) (xs ys : List ℕ) → (here ≡ none → ⊥) → cond (eqb x y) later here ≡ none → (later ≡ none → xs ≡ ys) → x ∷ xs ≡ y ∷ ys
same_place x y later here xs ys some h same = grind (arith, nat_tests)

pub first_agrees : (place : ℕ) (xs ys : List ℕ) → length ys ≡ length xs → first_from place (zip xs ys) ≡ none → xs ≡ ys
first_agrees place [] [] e h = refl
first_agrees place [] (y ∷ ys) e h = absurd (omega arith)
first_agrees place (x ∷ xs) [] e h = absurd (omega arith)
first_agrees place (x ∷ xs) (y ∷ ys) e h =
    same_place x y _ _ xs ys (λ at. cc) h (first_agrees (suc place) xs ys (omega arith))

-- ---- one difference

pub no_difference : (channel : Channel) (x : ℕ) → difference channel (x, x) ≡ pos 0
unfolding difference
no_difference channel x = +ℤ_invr (pos (level_of channel (levels_of x)))

minus_zero : (a b : ℕ) → pos a -ℤ pos b ≡ pos 0 → a ≡ b
minus_zero a b h = omega (arith, ints)

pub levels_same :
    (channel : Channel) (x y : ℕ) → difference channel (x, y) ≡ pos 0 → level_of channel (levels_of x) ≡ level_of channel (levels_of y)
unfolding difference
levels_same channel x y h = minus_zero (level_of channel (levels_of x)) (level_of channel (levels_of y)) h

minus_turned : (a b : ℤ) → b -ℤ a ≡ neg_ℤ (a -ℤ b)
minus_turned a b = omega (arith, ints)

difference_turned : (channel : Channel) (x y : ℕ) → difference channel (y, x) ≡ neg_ℤ (difference channel (x, y))
unfolding difference
difference_turned channel x y = minus_turned (pos (level_of channel (levels_of x))) (pos (level_of channel (levels_of y)))

-- ---- two sides exchanged

test_turned : (x y : ℕ) → eqb y x ≡ eqb x y
test_turned x y = grind (arith, nat_tests)

pub count_turned : (xs ys : List ℕ) → differing (zip ys xs) ≡ differing (zip xs ys)
count_turned [] [] = refl
count_turned [] (y ∷ ys) = refl
count_turned (x ∷ xs) [] = refl
count_turned (x ∷ xs) (y ∷ ys) = rw (test_turned x y, count_turned xs ys)

pub first_turned : (place : ℕ) (xs ys : List ℕ) → first_from place (zip ys xs) ≡ first_from place (zip xs ys)
first_turned place [] [] = refl
first_turned place [] (y ∷ ys) = refl
first_turned place (x ∷ xs) [] = refl
first_turned place (x ∷ xs) (y ∷ ys) = rw (test_turned x y, first_turned (suc place) xs ys)

pub differences_turned :
    (channel : Channel) (xs ys : List ℕ) → differences channel (zip ys xs) ≡ map neg_ℤ (differences channel (zip xs ys))
differences_turned channel [] [] = refl
differences_turned channel [] (y ∷ ys) = refl
differences_turned channel (x ∷ xs) [] = refl
differences_turned channel (x ∷ xs) (y ∷ ys) = λ i. difference_turned channel x y i ∷ differences_turned channel xs ys i
