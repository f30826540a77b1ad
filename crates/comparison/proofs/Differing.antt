-- The two colours at each dot: the count and the first place as std counts and searches.
use mathlib.Core.Path.{◌≡◌, refl}
use mathlib.Core.Bool.{Bool, true, false, not, cond}
use mathlib.Core.List.{List, [], ◌∷◌}
use Prim.Native.Nat.{ℕ, suc, ◌+◌, ◌/◌, ◌%◌}
use native.Mathlib.Numerals.{add-one}
use lib.Dec.{eqb}
use Rattle.std.specs.Prelude.{Option, Some, None, sum_by, position}
use Rattle.std.specs.List.{position_from}
use Rattle.std.proofs.lemmas.List.Recursion.{is_sum_by}
use Rattle.std.proofs.lemmas.Iterator.Adapters.{position_from-zero}
use Rattle.lists.specs.Number.{number}
use Rattle.comparison.specs.Comparison.{Place, none, at, differing, first_from}

-- a dot's two colours are not one
abbrev pub differs : ℕ × ℕ → Bool
differs dot = not (eqb dot.0 dot.1)

pub count_is : (dots : List (ℕ × ℕ)) → differing dots ≡ sum_by (λ dot. number (differs dot)) dots
count_is = is_sum_by differing (λ dot. number (differs dot)) refl (λ dot more. refl)

-- the place of a dot's index
abbrev pub place_at : Option ℕ → Place
place_at None = none
place_at (Some i) = at (i / 736) (i % 736)

either :
    (t : Bool) (place : ℕ) (more : List (ℕ × ℕ))
    → first_from (suc place) more ≡ place_at (position_from differs (place + 1) more)
    → cond t (first_from (suc place) more) (at (place / 736) (place % 736)) ≡ place_at (cond (not t) (Some place) (position_from differs (place + 1) more))
either true place more later = later
either false place more later = refl

first_at : (place : ℕ) (dots : List (ℕ × ℕ)) → first_from place dots ≡ place_at (position_from differs place dots)
first_at place [] = refl
first_at place ((capture, frame) ∷ more) = either (eqb capture frame) place more (rw add-one (first_at (suc place) more))

pub first_is : (dots : List (ℕ × ℕ)) → first_from 0 dots ≡ place_at (position differs dots)
first_is dots = rw (position_from-zero differs dots) (first_at 0 dots)
