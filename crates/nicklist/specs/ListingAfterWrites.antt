-- The listing after the register writes of a file.
use Rattle.std.specs.Prelude.{ℕ, ◌≡◌, ◌≤◌, List, Result, IfOk, length}
use Rattle.nick.specs.Listing.{list_refused, list_answered, list_answer, list_output}
use Rattle.nick.specs.declared.refusal.Refusal.{Refusal}
use Rattle.files.specs.Writes.{after_writes}

-- a refused write's number, and the text as it was; else the rules' listing of the registers that the writes left, which fits
pub record ListsAfter (writes ram text₀ : List ℕ) (r : Result ℕ Refusal) (text₁ : List ℕ) : Type 0 where
  pub answer : list_answered r ≡ after_writes writes list_refused (λ s. list_answer s.registers ram text₀)
  pub output : text₁ ≡ after_writes writes (λ n. text₀) (λ s. list_output s.registers ram text₀)
  pub fits : IfOk r (λ n. n ≤ length text₀)
