-- The lines of a listing as the code writes them.
use Rattle.std.specs.Prelude.{ℕ, ◌+◌, ◌%◌, List, [], ◌∷◌, ◌++◌}
use Rattle.nick.specs.Registers.{base_number}
use Rattle.nick.specs.Blocks.{block_at}
use Rattle.nick.specs.Listing.{block_line}
use Rattle.text.specs.Decimal.{LF, decimal}
use Rattle.nick.specs.declared.Registers.{Registers}

-- the line of the block k places after the base
abbrev pub line_after : Registers → List ℕ → ℕ → List ℕ
line_after g ram k = block_line ((base_number g + k) % 4096) (block_at ram ((base_number g + k) % 4096))

-- a word that ends with a tab, and a number
unfoldable pub word_line : List ℕ → ℕ → List ℕ
word_line word n = word ++ decimal n ++ (LF ∷ [])
