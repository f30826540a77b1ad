-- Document 02, item 1, "Compare a capture with a frame": what is given of two dot buffers and their two record buffers, for the same
-- height. `dots` is the two colours at each dot, the capture's and the frame's, in order.
use Rattle.std.specs.Prelude.{ℕ, suc, ◌+◌, ◌/◌, ◌%◌, Bool, not, cond, eqb, ℤ, pos, ◌-ℤ◌}
use mathlib.Core.List.{List, [], ◌∷◌, map, foldl}
use Rattle.std.specs.List.{zip}
use Rattle.std.specs.Int.Signed.{lt_z}
use Rattle.lists.specs.Number.{number}
use Rattle.nick.specs.Levels.{levels_of}
use Rattle.nick.specs.Refusals.{bad_height, bad_dots, bad_records, any_stamped}
use Rattle.nick.specs.declared.Levels.{Levels}
use Rattle.comparison.specs.declared.Channel.{Channel}
use Rattle.comparison.specs.declared.Channel.TheVariants.{Red, Green, Blue}
use Rattle.comparison.specs.declared.Range.{Range}

-- "the number of differing dots"
abbrev pub differing : List (ℕ × ℕ) → ℕ
differing [] = 0
differing ((capture, frame) ∷ more) = number (not (eqb capture frame)) + differing more

-- "the first differing line and dot or "none""
pub data Place : Type 0 where
  none : Place
  at : ℕ → ℕ → Place

-- the first that differs of these dots, which begin at the given place in the buffers; document 01: "736 per scanline"
abbrev pub first_from : ℕ → List (ℕ × ℕ) → Place
first_from place [] = none
first_from place ((capture, frame) ∷ more) =
    cond (eqb capture frame) (first_from (suc place) more) (at (place / 736) (place % 736))

-- "for red, green and blue": the level of each
abbrev pub level_of : Channel → Levels → ℕ
level_of Red levels = levels.red
level_of Green levels = levels.green
level_of Blue levels = levels.blue

-- the "signed difference of levels, capture minus frame" at a dot
unfoldable pub difference : Channel → ℕ × ℕ → ℤ
difference channel (capture, frame) = pos (level_of channel (levels_of capture)) -ℤ pos (level_of channel (levels_of frame))

-- "taken over all dots"
abbrev pub differences : Channel → List (ℕ × ℕ) → List ℤ
differences channel dots = map (difference channel) dots

-- the lesser and the greater of two differences
abbrev pub lesser : ℤ → ℤ → ℤ
lesser a b = cond (lt_z b a) b a

abbrev pub greater : ℤ → ℤ → ℤ
greater a b = cond (lt_z a b) b a

-- "the smallest and the largest": step by step from the first. Of no dots both are 0; every height that is not refused has some.
abbrev pub range_of : List ℤ → Range
range_of [] = record { smallest = pos 0; largest = pos 0 }
range_of (first ∷ more) = record { smallest = foldl lesser first more; largest = foldl greater first more }

-- what a comparison finds
pub record Found : Type 0 where
  pub count : ℕ
  pub first : Place
  pub red : Range
  pub green : Range
  pub blue : Range

unfoldable pub found_in : List (ℕ × ℕ) → Found
found_in dots = record {
  count = differing dots;
  first = first_from 0 dots;
  red = range_of (differences Red dots);
  green = range_of (differences Green dots);
  blue = range_of (differences Blue dots);
}

-- "Refusals 6, 7 and 12 name the side"
pub data Named : Type 0 where
  no_side : Named
  capture_side : Named
  frame_side : Named

-- a refusal's number, 0 for none, and the side that it names
pub record Told : Type 0 where
  pub number : ℕ
  pub side : Named

abbrev pub told : ℕ → Named → Told
told n side = record { number = n; side = side }

-- a refusal that names its side, "the capture's where both sides are at fault"; else what is told by the tests after it
abbrev pub of_side : ℕ → Bool → Bool → Told → Told
of_side n inCapture inFrame rest = cond inCapture (told n capture_side) (cond inFrame (told n frame_side) rest)

-- "A new refusal 12 is given if any record of either side begins with 255. Lengths are tested first, with numbers 5, 6 and 7 of
-- document 01."
unfoldable pub comparison_refusal : ℕ → List ℕ → List ℕ → List ℕ → List ℕ → Told
comparison_refusal h capture capture_records frame frame_records =
    cond (bad_height h) (told 5 no_side)
    (of_side 6 (bad_dots h capture) (bad_dots h frame)
    (of_side 7 (bad_records h capture_records) (bad_records h frame_records)
    (of_side 12 (any_stamped h capture_records) (any_stamped h frame_records)
    (told 0 no_side))))

-- what a comparison answers
pub data Answered : Type 0 where
  refused : Told → Answered
  found : Found → Answered

unfoldable pub comparison : ℕ → List ℕ → List ℕ → List ℕ → List ℕ → Answered
comparison h capture capture_records frame frame_records =
    let refusal = comparison_refusal h capture capture_records frame frame_records in
    cond (eqb refusal.number 0) (found (found_in (zip capture frame))) (refused refusal)
