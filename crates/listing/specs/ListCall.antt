-- What the listing's call promises: the rules' answer, the rules' output, and that a listing that is not refused fits the output.
use Rattle.std.specs.Prelude.{ℕ, ◌≡◌, ◌≤◌, List, Result, IfOk, length}
use Rattle.nick.specs.Listing.{list_answered, list_answer, list_output}
use Rattle.nick.specs.declared.Registers.{Registers}
use Rattle.nick.specs.declared.refusal.Refusal.{Refusal}

pub record Lists (g : Registers) (ram out : List ℕ) (r : Result ℕ Refusal) (left : List ℕ) : Type 0 where
  pub answer : list_answered r ≡ list_answer g ram out
  pub output : left ≡ list_output g ram out
  pub fits : IfOk r (λ n. n ≤ length out)
