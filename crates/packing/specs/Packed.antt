-- Answers as numbers.
use Rattle.std.specs.Prelude.{ℕ, ◌+◌, ◌*◌, ◌^◌, List, length}
use Rattle.nick.specs.Numbers.{byte_at}
use Rattle.nick.specs.Direct.{Answered, refused, shows}
use Rattle.nick.specs.Listing.{ListAnswered, list_refused, list_length}
use Rattle.nick.specs.declared.Levels.{Levels}

-- bits 16 to 23 how many addresses, 24 to 39 and 40 to 55 the addresses in order, else zeros
abbrev pub packed_addresses : List ℕ → ℕ
packed_addresses named = 2 ^ 16 * length named + 2 ^ 24 * byte_at named 0 + 2 ^ 40 * byte_at named 1

-- bits 0 to 7 the refusal, 8 to 15 the colour
abbrev pub packed_answer : Answered → ℕ
packed_answer (refused n) = n
packed_answer (shows dot) = 2 ^ 8 * dot.colour + packed_addresses dot.names

-- a listing's length; none where it is refused
abbrev pub length_of : ListAnswered → ℕ
length_of (list_refused n) = 0
length_of (list_length n) = n

-- bits 0 to 31 the refusal, 32 to 63 the length
abbrev pub packed_listed : ListAnswered → ℕ
packed_listed (list_refused n) = n
packed_listed (list_length n) = 2 ^ 32 * n

-- red + 256 * green + 65,536 * blue
abbrev pub packed_levels : Levels → ℕ
packed_levels v = v.red + 256 * v.green + 65536 * v.blue
