-- The lines of the first k + 1 blocks are those of the first k and one more.
use mathlib.Core.Path.{◌≡◌, refl}
use mathlib.Core.List.{List, ◌++◌}
use Prim.Native.Nat.{ℕ, ◌+◌}
use native.Mathlib.Numerals.{add-one}
use Rattle.nick.specs.Listing.{block_lines}
use Rattle.nick.specs.declared.Registers.{Registers}
use Rattle.listing.specs.WrittenLines.{line_after}

pub lines_more : (g : Registers) (ram : List ℕ) (k : ℕ) → block_lines g ram (k + 1) ≡ block_lines g ram k ++ line_after g ram k
lines_more g ram k = rw (add-one k) refl
