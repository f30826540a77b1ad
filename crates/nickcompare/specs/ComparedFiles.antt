-- The comparison of what was read of the files.
use Rattle.std.specs.Prelude.{◌≡◌, ℕ, Result, IfOk, List}
use Rattle.comparison.specs.Answers.{answered}
use Rattle.comparison.specs.Comparison.{comparison}
use Rattle.comparison.specs.declared.Differences.{Differences}
use Rattle.comparison.specs.declared.Refused.{Refused}
use Rattle.nickcompare.specs.FirstDot.{LiesIn}

-- the rules' comparison, and the first dot that differs in both buffers
pub record Compares (h : ℕ) (capture capture_records frame frame_records : List ℕ) (r : Result Differences Refused) : Type 0 where
  pub answer : answered r ≡ comparison h capture capture_records frame frame_records
  pub inside : IfOk r (λ found. LiesIn found.first capture × LiesIn found.first frame)
