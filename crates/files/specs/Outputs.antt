-- What a painting program makes of its arguments, and of the records that it does not leave painted.
use Rattle.std.specs.Prelude.{ℕ, Option, Some, None, min, max, Bool, ◌||◌, List, length, replicate}
use Rattle.files.specs.declared.outputs.Named.{Named}

-- the lines to stamp: those asked for, but at least one and at most 65,536; one where that is not known
abbrev pub lines_stamped : Option ℕ → ℕ
lines_stamped (Some n) = min (max n 1) 65536
lines_stamped None = 1

-- 255 over every byte
abbrev pub stamps : List ℕ → List ℕ
stamps records = replicate (length records) 255

-- whether an output is one of the inputs
abbrev pub is_input : Named → Bool
is_input output = output.ram || (output.commands || output.external)

-- whether a run would write over an input
abbrev pub is_clash : Named → Named → Bool
is_clash dots records = is_input dots || is_input records
