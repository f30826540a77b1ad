-- A test as a number.
use Rattle.std.specs.Prelude.{ℕ, Bool, true, false}

-- 1 where the test holds, else 0
abbrev pub number : Bool → ℕ
number true = 1
number false = 0
