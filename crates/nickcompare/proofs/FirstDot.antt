-- The first dot that differs lies in both buffers, where they are compared and not refused.
use Rattle.std.proofs.Common.{◌≡◌, refl, sym, ap, ℕ, arith, List, Option, Some, None, Result, Ok, Err, IfOk}
use Rattle.comparison.specs.Comparison.{comparison}
use Rattle.comparison.specs.Answers.{place_of, found_by, answered}
use Rattle.comparison.specs.declared.Differences.{Differences}
use Rattle.comparison.specs.declared.Place.{Place}
use Rattle.comparison.specs.declared.Refused.{Refused}
use Rattle.comparison.proofs.FirstDot.{first_inside}
use Rattle.nickcompare.specs.ComparedFiles.{Compares}
use Rattle.nickcompare.specs.FirstDot.{LiesIn}

pub compares :
    (h : ℕ) (capture capture_records frame frame_records : List ℕ) (r : Result Differences Refused)
    → answered r ≡ comparison h capture capture_records frame frame_records
    → Compares h capture capture_records frame frame_records r
compares h capture capture_records frame frame_records r is = record { answer = is; inside = lies r is }
  where
    lies :
        (r : Result Differences Refused)
        → answered r ≡ comparison h capture capture_records frame frame_records
        → IfOk r (λ d. LiesIn d.first capture × LiesIn d.first frame)
    lies (Err refused) is = tt
    lies (Ok d) is = go d.first refl
      where
        go : (first : Option Place) → d.first ≡ first → LiesIn first capture × LiesIn first frame
        go None none = (tt, tt)
        go (Some place) there =
            let inside = first_inside h capture capture_records frame frame_records (found_by d) place.line place.dot (sym is) (ap place_of there) in
            (inside.0, omega (arith, inside.0, inside.1))
