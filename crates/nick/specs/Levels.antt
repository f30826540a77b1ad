-- Document 01, "From display byte to colour", last line: the levels of a colour byte.
use Rattle.std.specs.Prelude.{ℕ, ◌+◌, ◌*◌}
use Rattle.nick.specs.Numbers.{bit}
use Rattle.nick.specs.declared.Levels.{Levels}

-- "red 4·b0+2·b3+b6, green 4·b1+2·b4+b7, of 7; blue 2·b2+b5, of 3"
unfoldable pub levels_of : ℕ → Levels
levels_of c = record {
  red = 4 * bit 0 c + 2 * bit 3 c + bit 6 c;
  green = 4 * bit 1 c + 2 * bit 4 c + bit 7 c;
  blue = 2 * bit 2 c + bit 5 c;
}
