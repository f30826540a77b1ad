-- The number that decimal digits spell, most significant first.
use Rattle.std.specs.Prelude.{ℕ, Option, Some, None, ◌+◌, ◌-◌, ◌*◌, min, Bool, true, cond, not, ◌&&◌, ◌||◌, List, [], ◌∷◌, eqb, ltb, length}

-- the value of a digit; 10 for any other byte
abbrev pub digit : ℕ → ℕ
digit b = cond (ltb b 48 || ltb 57 b) 10 (b - 48)

-- whether every byte is a digit
abbrev pub digits : List ℕ → Bool
digits [] = true
digits (b ∷ more) = not (ltb 9 (digit b)) && digits more

-- the number that digits spell, after digits that spell v
abbrev pub value_from : ℕ → List ℕ → ℕ
value_from v [] = v
value_from v (b ∷ more) = value_from (10 * v + digit b) more

-- a text's number, at most 65,536; an empty text and one with any other byte have none
unfoldable pub number_of : List ℕ → Option ℕ
number_of text = cond (eqb (length text) 0 || not (digits text)) None (Some (min (value_from 0 text) 65536))
