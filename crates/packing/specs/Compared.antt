-- A comparison's answer as a number and 14 bytes.
use Rattle.std.specs.Prelude.{ℕ, ◌+◌, ◌-◌, ◌*◌, ◌/◌, ◌%◌, List, [], ◌∷◌, ◌++◌, ℤ, pos, negsuc}
use Rattle.nick.specs.Numbers.{low, high}
use Rattle.comparison.specs.Comparison.{Place, none, at, Found, Named, no_side, capture_side, frame_side, Told, Answered, refused, found}
use Rattle.comparison.specs.declared.Range.{Range}

-- "1 capture, 2 frame; 0 where none is named"
abbrev pub side_number : Named → ℕ
side_number no_side = 0
side_number capture_side = 1
side_number frame_side = 2

-- bits 0 to 7 the refusal, bits 8 to 15 the side
abbrev pub packed_told : Told → ℕ
packed_told t = t.number + 256 * side_number t.side

-- a number in two bytes, and in four, the low byte first
abbrev pub two_bytes : ℕ → List ℕ
two_bytes n = low n ∷ high n ∷ []

abbrev pub four_bytes : ℕ → List ℕ
four_bytes n = two_bytes (n % 65536) ++ two_bytes (n / 65536)

-- the first one's line and dot, "65,535 both if none"
abbrev pub place_bytes : Place → List ℕ
place_bytes none = two_bytes 65535 ++ two_bytes 65535
place_bytes (at line dot) = two_bytes line ++ two_bytes dot

-- a signed byte, in two's complement
abbrev pub signed_byte : ℤ → ℕ
signed_byte (pos n) = n % 256
signed_byte (negsuc n) = 255 - n % 256

abbrev pub range_bytes : Range → List ℕ
range_bytes r = signed_byte r.smallest ∷ signed_byte r.largest ∷ []

-- 0 to 3 how many dots differ, 4 to 7 the first one's line and dot, then the ranges of red, green and blue
abbrev pub found_bytes : Found → List ℕ
found_bytes f =
    four_bytes f.count ++ place_bytes f.first ++ range_bytes f.red ++ range_bytes f.green ++ range_bytes f.blue

-- what a comparison answers as a number: the refusal and its side, 0 where it is not refused
abbrev pub packed_compared : Answered → ℕ
packed_compared (refused t) = packed_told t
packed_compared (found f) = 0

-- the bytes lent for what is found; a refused comparison leaves them
abbrev pub compared_bytes : Answered → List ℕ → List ℕ
compared_bytes (refused t) bytes = bytes
compared_bytes (found f) bytes = found_bytes f
