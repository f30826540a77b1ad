-- General laws on tests: joined tests, tests as numbers, and choices by a test.
use mathlib.Core.Path.{◌≡◌, refl}
use mathlib.Core.Bool.{Bool, true, false, cond, ◌||◌}
use Prim.Native.Nat.{ℕ, suc, ◌<◌, ◌≤◌}
use native.Mathlib.Omega.{arith}
use lib.Dec.{eqb}
use borrow.Author.Tests.{eqb-true}
use Rattle.lists.specs.Number.{number}

-- neither of two tests holds
pub or_first : (a b : Bool) → a || b ≡ false → a ≡ false
or_first true b e = e
or_first false b e = refl

pub or_rest : (a b : Bool) → a || b ≡ false → b ≡ false
or_rest true b e = cc
or_rest false b e = e

-- a test as a number is at most 1
pub number_le : (t : Bool) → number t ≤ 1
number_le true = omega arith
number_le false = omega arith

-- a choice of numbers that gives 0: the test failed, and the rest is 0
pub not_chosen : (t : Bool) (n r : ℕ) → cond t (suc n) r ≡ 0 → t ≡ false
not_chosen true n r e = absurd (omega arith)
not_chosen false n r e = refl

pub rest_zero : (t : Bool) (n r : ℕ) → cond t (suc n) r ≡ 0 → r ≡ 0
rest_zero true n r e = absurd (omega arith)
rest_zero false n r e = e

-- either of two numbers below a bound
pub cond_below : (t : Bool) (a b n : ℕ) → a < n → b < n → cond t a b < n
cond_below true a b n ha hb = ha
cond_below false a b n ha hb = hb

-- a function of a choice chooses between its values
pub apply_cond : {A B : Type 0} (f : A → B) (t : Bool) (a b : A) → f (cond t a b) ≡ cond t (f a) (f b)
apply_cond f true a b = refl
apply_cond f false a b = refl

-- a value chosen by whether a number is 0, which is not the second choice: the number is 0, and it is the first
pub chosen : {A : Type 0} (n : ℕ) (v a b : A) → (v ≡ b → ⊥) → v ≡ cond (eqb n 0) a b → (n ≡ 0) × (v ≡ a)
chosen n v a b other e = go (eqb n 0) refl e
  where
    go : (t : Bool) → eqb n 0 ≡ t → v ≡ cond t a b → (n ≡ 0) × (v ≡ a)
    go true h l = (eqb-true n 0 h, l)
    go false h l = absurd (other l)
