-- What each case of the code's answers stands for.
use Rattle.std.specs.Prelude.{Option, Some, None, Result, Ok, Err}
use Rattle.nick.specs.Refusals.{number_of}
use Rattle.comparison.specs.declared.Named.{Named as Side}
use Rattle.comparison.specs.declared.Named.TheVariants.{Capture, Frame}
use Rattle.comparison.specs.declared.Place.{Place as Dot}
use Rattle.comparison.specs.declared.Differences.{Differences}
use Rattle.comparison.specs.declared.Refused.{Refused}
use Rattle.comparison.specs.Comparison.{Place, none, at, Found, Named, no_side, capture_side, frame_side, Told, told, Answered, refused, found}

abbrev pub side_of : Option Side → Named
side_of None = no_side
side_of (Some Capture) = capture_side
side_of (Some Frame) = frame_side

abbrev pub place_of : Option Dot → Place
place_of None = none
place_of (Some place) = at place.line place.dot

abbrev pub told_by : Refused → Told
told_by r = told (number_of r.refusal) (side_of r.side)

-- what the tests of a comparison tell: a refusal, or none
abbrev pub told_in : Result (Unit {0}) Refused → Told
told_in (Ok done) = told 0 no_side
told_in (Err r) = told_by r

abbrev pub found_by : Differences → Found
found_by d = record {
  count = d.count;
  first = place_of d.first;
  red = d.ranges.red;
  green = d.ranges.green;
  blue = d.ranges.blue;
}

abbrev pub answered : Result Differences Refused → Answered
answered (Ok d) = found (found_by d)
answered (Err r) = refused (told_by r)
