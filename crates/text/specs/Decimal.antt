-- Decimal numbers as bytes, a tab before each where several stand in a line.
use Rattle.std.specs.Prelude.{ℕ, zero, suc, ◌+◌, ◌/◌, ◌%◌, cond, List, [], ◌∷◌, ◌++◌, ltb}

-- a tab, and a line feed
abbrev pub TAB : ℕ
TAB = 9

abbrev pub LF : ℕ
LF = 10

-- "decimal, most significant digit first, without leading zeros"; the fuel is any number above n
abbrev pub digits_of : ℕ → ℕ → List ℕ
digits_of zero n = []
digits_of (suc fuel) n =
    let front = digits_of fuel (n / 10) in
    cond (ltb n 10) ((48 + n) ∷ []) (front ++ ((48 + n % 10) ∷ []))

unfoldable pub decimal : ℕ → List ℕ
decimal n = digits_of (suc n) n

-- "One tab stands between fields": numbers, each after a tab
unfoldable pub tabbed : List ℕ → List ℕ
tabbed [] = []
tabbed (n ∷ more) = (TAB ∷ decimal n) ++ tabbed more
