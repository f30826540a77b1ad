-- What is said of an answer determines it: answers that say the same are the same.
use mathlib.Core.Path.{◌≡◌, refl, sym, ap, ◌∙◌}
use Rattle.std.specs.Prelude.{Option, Some, None, Result, Ok, Err}
use Rattle.nick.proofs.Determined.{number_determines}
use Rattle.comparison.specs.Comparison.{Place, none, at, Found, Named, no_side, capture_side, frame_side, Told, Answered, refused, found}
use Rattle.comparison.specs.Answers.{side_of, place_of, told_by, found_by, answered}
use Rattle.comparison.specs.declared.Named.{Named as Side}
use Rattle.comparison.specs.declared.Named.TheVariants.{Capture, Frame}
use Rattle.comparison.specs.declared.Place.{Place as Dot}
use Rattle.comparison.specs.declared.Refused.{Refused}
use Rattle.comparison.specs.declared.Differences.{Differences}

abbrev side_from : Named → Option Side
side_from no_side = None
side_from capture_side = Some Capture
side_from frame_side = Some Frame

side_back : (s : Option Side) → side_from (side_of s) ≡ s
side_back None = refl
side_back (Some Capture) = refl
side_back (Some Frame) = refl

told_determines : (r q : Refused) → told_by r ≡ told_by q → r ≡ q
told_determines r q e =
    let refusal = number_determines r.refusal q.refusal (ap (λ (t : Told). t.number) e) in
    let side : r.side ≡ q.side = sym (side_back r.side) ∙ (ap (λ (t : Told). side_from t.side) e ∙ side_back q.side) in
    λ i. record { refusal = refusal i; side = side i }

abbrev first_from : Place → Option Dot
first_from none = None
first_from (at line dot) = Some (record { line = line; dot = dot })

first_back : (f : Option Dot) → first_from (place_of f) ≡ f
first_back None = refl
first_back (Some place) = refl

abbrev differences_from : Found → Differences
differences_from f = record {
  count = f.count;
  first = first_from f.first;
  ranges = record { red = f.red; green = f.green; blue = f.blue };
}

differences_back : (d : Differences) → differences_from (found_by d) ≡ d
differences_back d = λ i. record { count = d.count; first = first_back d.first i; ranges = d.ranges }

abbrev told_of : Told → Answered → Told
told_of other (refused t) = t
told_of other (found f) = other

abbrev found_of : Found → Answered → Found
found_of other (refused t) = other
found_of other (found f) = f

pub answered_determines : (a b : Result Differences Refused) → answered a ≡ answered b → a ≡ b
answered_determines (Ok d) (Ok g) e =
    ap Ok (sym (differences_back d) ∙ (ap (λ (a : Answered). differences_from (found_of (found_by d) a)) e ∙ differences_back g))
answered_determines (Err r) (Err q) e = ap Err (told_determines r q (ap (told_of (told_by r)) e))
answered_determines (Ok d) (Err r) e = cc
answered_determines (Err r) (Ok d) e = cc
