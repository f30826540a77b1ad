-- The direct answer after the register writes of a file.
use Rattle.std.specs.Prelude.{ℕ, List}
use Rattle.nick.specs.Direct.{Answered, refused, direct}
use Rattle.files.specs.Writes.{after_writes}

-- a refused write's number; else the rules' answer from the state that the writes left
abbrev pub answer_after : List ℕ → List ℕ → ℕ → ℕ → ℕ → Answered
answer_after writes ram y x e = after_writes writes refused (λ s. direct s ram y x e)
