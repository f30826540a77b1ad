-- What is lent of the buffers to a run.
use Rattle.std.specs.Prelude.{ℕ, min, List}
use Rattle.script.specs.Steps.{steps_of, lines_in}

-- the lines that there are dots and records for: those that the script asks for, but at most 1,024
abbrev pub lines_lent : List ℕ → ℕ
lines_lent script = min (lines_in (steps_of script)) 1024
