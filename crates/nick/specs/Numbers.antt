-- Bits of a byte, 16-bit pointers, pairs of bytes, and reading memory.
use Rattle.std.specs.Prelude.{ℕ, ◌+◌, ◌*◌, ◌/◌, ◌%◌, ◌^◌, ◌<◌, Bool, List, eqb, get_or}

-- bit k of x, as 0 or 1
abbrev pub bit : ℕ → ℕ → ℕ
bit k x = x / 2 ^ k % 2

-- bit k of x is set
abbrev pub is_set : ℕ → ℕ → Bool
is_set k x = eqb (bit k x) 1

-- "Pointers are 16-bit and run from 65,535 to 0": a pointer that goes up by n
abbrev pub up : ℕ → ℕ → ℕ
up n pointer = (pointer + n) % 65536

-- the two bytes of a 16-bit number that is stored "low byte first"
abbrev pub low : ℕ → ℕ
low n = n % 256

abbrev pub high : ℕ → ℕ
high n = n / 256

-- the byte at an address; 0 where there is none
abbrev pub byte_at : List ℕ → ℕ → ℕ
byte_at bytes address = get_or bytes address 0

-- the number that is stored so from an address on
abbrev pub pair_at : List ℕ → ℕ → ℕ
pair_at bytes address = byte_at bytes address + 256 * byte_at bytes (address + 1)

-- a list of bytes
abbrev pub Bytes : List ℕ → Type 0
Bytes bytes = (i : ℕ) → byte_at bytes i < 256
