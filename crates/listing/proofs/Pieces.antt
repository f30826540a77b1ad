-- Laws on the pieces of a block's line: names, colours and tabbed numbers, and the line's length.
use mathlib.Core.Path.{◌≡◌, refl, sym}
use mathlib.Core.List.{List, [], ◌∷◌, ◌++◌, append_assoc}
use Prim.Native.Nat.{ℕ, zero, suc, ◌+◌, ◌-◌, ◌*◌, ◌<◌}
use native.Mathlib.Omega.{arith}
use lib.ListN.{length, length-append}
use Rattle.lists.specs.Number.{number}
use Rattle.nick.specs.Registers.{base_number}
use Rattle.nick.specs.Blocks.{vint, vres, reload}
use Rattle.nick.specs.Slots.{mode_number, mode_numbered, mode_of}
use Rattle.nick.specs.Colour.{colour_number, colours_numbered, colours_of}
use Rattle.nick.specs.Listing.{header_word, end_word, mode_name, colour_count, numbers_after_name, block_line, block_lines, blocks_listed, header_line, end_line, listing}
use Rattle.text.specs.Decimal.{TAB, LF, decimal, tabbed}
use Rattle.lists.proofs.Below.{below_eight}
use Rattle.nick.specs.declared.Registers.{Registers}
use Rattle.nick.specs.declared.Block.{Block}
use Rattle.text.proofs.Fields.{field}
use Rattle.listing.specs.WrittenLines.{word_line}
use Rattle.listing.specs.Modes.{name_of, count_of}

-- the name and the number of colours of a numbered mode
name_numbered : (n : ℕ) → n < 8 → name_of (mode_numbered n) ≡ mode_name n
unfolding name_of mode_name mode_numbered
name_numbered = below_eight (λ n. name_of (mode_numbered n) ≡ mode_name n) refl refl refl refl refl refl refl refl

count_numbered : (n : ℕ) → n < 4 → count_of (colours_numbered n) ≡ colour_count n
unfolding count_of colour_count colours_numbered
count_numbered zero h = refl
count_numbered (suc zero) h = refl
count_numbered (suc (suc zero)) h = refl
count_numbered (suc (suc (suc zero))) h = refl
count_numbered (suc (suc (suc (suc n)))) h = absurd (omega arith)

-- the numbers after the name, as the code writes them: first eight, then the colours
pub numbers_text : (b : Block) →
    tabbed (numbers_after_name b)
    ≡ tabbed (count_of (colours_of b) ∷ number (vres b) ∷ number (vint b) ∷ number (reload b) ∷ b.lm ∷ b.rm ∷ b.start.ld1 ∷ b.start.ld2 ∷ [])
    ++ tabbed b.col
unfolding tabbed
numbers_text b = rw (← count_numbered (colour_number b) (omega arith)) (sym (simp append_assoc))

-- a block's line, piece by piece
pub line_text : (n : ℕ) (b : Block) → block_line n b ≡ decimal (16 * n) ++ field (256 - b.sc) ++ (TAB ∷ []) ++ name_of (mode_of b) ++ tabbed (numbers_after_name b) ++ (LF ∷ [])
unfolding block_line
line_text n b =
    let name = mode_name (mode_number b) in
    rw (name_numbered (mode_number b) (omega arith)) (rw (append_assoc (decimal (16 * n) ++ field (256 - b.sc)) (TAB ∷ []) name) refl)

pub line_length : (n : ℕ) (b : Block) →
    length (block_line n b)
    ≡ length (decimal (16 * n)) + length (field (256 - b.sc)) + 1 + length (name_of (mode_of b)) + length (tabbed (numbers_after_name b)) + 1
line_length n b = rw (line_text n b) (simp length-append)

-- the words of the first line and the last, with their tabs
abbrev pub header : List ℕ
header = header_word ++ (TAB ∷ [])

abbrev pub ending : List ℕ
ending = end_word ++ (TAB ∷ [])

pub word_length : (word : List ℕ) (n : ℕ) → length (word_line word n) ≡ length word + length (decimal n) + 1
unfolding word_line
word_length word n = simp length-append

-- a listing's three parts
pub listing_text : (g : Registers) (ram : List ℕ) →
    listing g ram
    ≡ word_line header (16 * base_number g)
    ++ block_lines g ram (blocks_listed g ram)
    ++ word_line ending (blocks_listed g ram)
unfolding listing header_line end_line word_line
listing_text g ram = refl
