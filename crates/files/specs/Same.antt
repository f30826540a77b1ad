-- Which files are one.
use Rattle.std.specs.Prelude.{Option, Some, None, Bool, false, ◌&&◌, eqb}
use Rattle.files.specs.declared.same.File.{File}

-- on one device and under one number, and both are there
abbrev pub is_one : Option File → Option File → Bool
is_one (Some a) (Some b) = eqb a.device b.device && eqb a.number b.number
is_one (Some a) None = false
is_one None b = false
