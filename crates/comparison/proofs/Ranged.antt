-- The ranges taken on dot by dot are those of each level's differences.
use mathlib.Core.Path.{◌≡◌, refl}
use mathlib.Core.Bool.{Bool, true, false, cond}
use mathlib.Core.List.{List, [], ◌∷◌, foldl}
use Prim.Native.Nat.{ℕ, ◌<◌}
use native.Mathlib.Omega.{arith}
use lib.IntN.{ℤ}
use lib.ListN.{length, get_or}
use lib.Signed.{lt_z}
use Rattle.std.specs.List.{fold, zip}
use Rattle.comparison.specs.Comparison.{difference, differences, lesser, greater, range_of}
use Rattle.comparison.specs.Widened.{range_at, widened, ranges_at, with_dot}
use Rattle.comparison.specs.declared.Channel.TheVariants.{Red, Green, Blue}
use Rattle.comparison.specs.declared.Range.{Range}
use Rattle.comparison.specs.declared.ranges.Ranges.{Ranges}

-- each level by itself
apart :
    (ranges : Ranges) (dots : List (ℕ × ℕ))
    → fold with_dot ranges dots
    ≡ record {
      red = fold widened ranges.red (differences Red dots);
      green = fold widened ranges.green (differences Green dots);
      blue = fold widened ranges.blue (differences Blue dots);
    }
apart ranges [] = refl
apart ranges (dot ∷ more) = apart (with_dot ranges dot) more

-- and its smallest and largest by themselves
ends :
    (range : Range) (more : List ℤ)
    → fold widened range more
    ≡ record { smallest = foldl lesser range.smallest more; largest = foldl greater range.largest more }
unfolding widened
ends range [] = refl
ends range (next ∷ more) = ends (widened range next) more

either : (t : Bool) (z : ℤ) → cond t z z ≡ z
either true z = refl
either false z = refl

-- the first difference may be taken in again
again : (first : ℤ) (more : List ℤ) → fold widened (range_at first) (first ∷ more) ≡ range_of (first ∷ more)
unfolding widened
again first more = rw (either (lt_z first first) first) (ends (range_at first) more)

pub ranged :
    (xs ys : List ℕ)
    → 0 < length xs
    → length ys ≡ length xs
    → fold with_dot (ranges_at (get_or xs 0 0, get_or ys 0 0)) (zip xs ys)
    ≡ record {
      red = range_of (differences Red (zip xs ys));
      green = range_of (differences Green (zip xs ys));
      blue = range_of (differences Blue (zip xs ys));
    }
ranged [] ys some same = absurd (omega arith)
ranged (x ∷ xs) [] some same = absurd (omega arith)
ranged (x ∷ xs) (y ∷ ys) some same =
    rw (
      apart (ranges_at (x, y)) (zip (x ∷ xs) (y ∷ ys)),
      again (difference Red (x, y)) (differences Red (zip xs ys)),
      again (difference Green (x, y)) (differences Green (zip xs ys)),
      again (difference Blue (x, y)) (differences Blue (zip xs ys)),
    )
