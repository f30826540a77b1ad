-- Document 01, "The listing": the text of the parameter table as a list of bytes, and what the call leaves.
use Rattle.std.specs.Prelude.{ℕ, zero, suc, Result, Ok, Err, ◌+◌, ◌-◌, ◌*◌, ◌%◌, cond, List, [], ◌∷◌, ◌++◌, eqb, length, get_or, drop}
use Rattle.lists.specs.Number.{number}
use Rattle.text.specs.Decimal.{TAB, LF, decimal, tabbed}
use Rattle.nick.specs.Registers.{base_number}
use Rattle.nick.specs.Blocks.{block_at, vint, vres, reload}
use Rattle.nick.specs.Slots.{mode_number}
use Rattle.nick.specs.Colour.{colour_number}
use Rattle.nick.specs.Refusals.{number_of, listing_refusal}
use Rattle.nick.specs.declared.Registers.{Registers}
use Rattle.nick.specs.declared.Block.{Block}
use Rattle.nick.specs.declared.refusal.Refusal.{Refusal}

-- NICKTABLE
abbrev pub header_word : List ℕ
header_word = 78 ∷ 73 ∷ 67 ∷ 75 ∷ 84 ∷ 65 ∷ 66 ∷ 76 ∷ 69 ∷ []

-- END
abbrev pub end_word : List ℕ
end_word = 69 ∷ 78 ∷ 68 ∷ []

-- "mode name (VSYNC, PIXEL, ATTR, CH256, CH128, CH64, UNUSED, LPIXEL)", by the video mode number
unfoldable pub mode_name : ℕ → List ℕ
mode_name n =
    get_or
    ((86 ∷ 83 ∷ 89 ∷ 78 ∷ 67 ∷ [])
    ∷ (80 ∷ 73 ∷ 88 ∷ 69 ∷ 76 ∷ [])
    ∷ (65 ∷ 84 ∷ 84 ∷ 82 ∷ [])
    ∷ (67 ∷ 72 ∷ 50 ∷ 53 ∷ 54 ∷ [])
    ∷ (67 ∷ 72 ∷ 49 ∷ 50 ∷ 56 ∷ [])
    ∷ (67 ∷ 72 ∷ 54 ∷ 52 ∷ [])
    ∷ (85 ∷ 78 ∷ 85 ∷ 83 ∷ 69 ∷ 68 ∷ [])
    ∷ (76 ∷ 80 ∷ 73 ∷ 88 ∷ 69 ∷ 76 ∷ [])
    ∷ [])
    n
    []

-- "colours (2, 4, 16, 256)", by the colour mode number
unfoldable pub colour_count : ℕ → ℕ
colour_count n = get_or (2 ∷ 4 ∷ 16 ∷ 256 ∷ []) n 0

-- "address, scanlines, mode name, colours, VRES, VINT, RELOAD, LM byte, RM byte, LD1, LD2, eight colours"
abbrev pub numbers_after_name : Block → List ℕ
numbers_after_name b =
    colour_count (colour_number b) ∷ number (vres b) ∷ number (vint b) ∷ number (reload b)
    ∷ b.lm ∷ b.rm ∷ b.start.ld1 ∷ b.start.ld2 ∷ b.col

-- "One tab stands between fields and a line feed ends every line"; "An address is sixteen times the block number"
unfoldable pub block_line : ℕ → Block → List ℕ
block_line n b =
    decimal (16 * n)
    ++ (TAB ∷ decimal (256 - b.sc))
    ++ (TAB ∷ mode_name (mode_number b))
    ++ tabbed (numbers_after_name b)
    ++ (LF ∷ [])

-- the number of blocks "from the base on, up to the first with RELOAD", or as many as the limit says; "after block 4,095 comes 0"
abbrev pub blocks_from : ℕ → List ℕ → ℕ → ℕ
blocks_from zero ram n = 0
blocks_from (suc limit) ram n =
    let more = blocks_from limit ram ((n + 1) % 4096) in
    cond (reload (block_at ram n)) 1 (suc more)

-- "or 4,096 blocks"
unfoldable pub blocks_listed : Registers → List ℕ → ℕ
blocks_listed g ram = blocks_from 4096 ram (base_number g)

-- the lines of the first k blocks
abbrev pub block_lines : Registers → List ℕ → ℕ → List ℕ
block_lines g ram zero = []
block_lines g ram (suc k) =
    block_lines g ram k
    ++ block_line ((base_number g + k) % 4096) (block_at ram ((base_number g + k) % 4096))

-- "the header word NICKTABLE and one tab, then the base address and a line feed"
unfoldable pub header_line : Registers → List ℕ
header_line g = header_word ++ (TAB ∷ decimal (16 * base_number g)) ++ (LF ∷ [])

-- "Then END, a tab, the number of blocks."
unfoldable pub end_line : ℕ → List ℕ
end_line count = end_word ++ (TAB ∷ decimal count) ++ (LF ∷ [])

-- the whole text
unfoldable pub listing : Registers → List ℕ → List ℕ
listing g ram = header_line g ++ block_lines g ram (blocks_listed g ram) ++ end_line (blocks_listed g ram)

-- what the call answers: a refusal's number, or a length
pub data ListAnswered : Type 0 where
  list_refused : ℕ → ListAnswered
  list_length : ℕ → ListAnswered

-- the number, or the length, of each case of the answer
abbrev pub list_answered : Result ℕ Refusal → ListAnswered
list_answered (Ok n) = list_length n
list_answered (Err refusal) = list_refused (number_of refusal)

-- "The answer is the listing's length." "It uses the registers alone, not the rest of the state."
unfoldable pub list_answer : Registers → List ℕ → List ℕ → ListAnswered
list_answer g ram out =
    let n = listing_refusal ram (listing g ram) out in
    cond (eqb n 0) (list_length (length (listing g ram))) (list_refused n)

-- "Bytes after the listing keep their content." "A refused listing keeps its output."
unfoldable pub list_output : Registers → List ℕ → List ℕ → List ℕ
list_output g ram out =
    let n = listing_refusal ram (listing g ram) out in
    cond (eqb n 0) (listing g ram ++ drop (length (listing g ram)) out) out
