-- What is answered of files that are read.
use Rattle.std.specs.Prelude.{ℕ, Bool, false, ◌||◌, eqb, Option, Some, None, Result, Ok, Err}
use Rattle.files.specs.declared.error.Error.{Error}
use Rattle.files.specs.declared.error.Error.TheVariants.{Usage, Unread, Unwritten, Refused}

-- both of two files, or the first of arguments i and j that could not be read
abbrev pub both_read : {A B : Type 0} → ℕ → ℕ → Option A → Option B → Result (A × B) Error
both_read i j (Some a) (Some b) = Ok (a, b)
both_read i j (Some a) None = Err (Unread j)
both_read i j None b = Err (Unread i)

-- what is told is that one of arguments i and j could not be read
abbrev pub is_unread : ℕ → ℕ → Error → Bool
is_unread i j (Unread k) = eqb k i || eqb k j
is_unread i j Usage = false
is_unread i j (Unwritten k) = false
is_unread i j (Refused refusal) = false
