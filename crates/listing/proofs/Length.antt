-- A listing's length: at most 16 bytes for the first line, 79 for each block and 9 for the last line.
use mathlib.Core.Bool.{Bool, true, false}
use mathlib.Core.List.{List, [], ◌∷◌, ◌++◌}
use Prim.Native.Nat.{ℕ, zero, suc, ◌+◌, ◌-◌, ◌*◌, ◌%◌, ◌<◌, ◌≤◌}
use native.Mathlib.Omega.{arith}
use lib.ListN.{length, take, drop, length-append}
use lib.Seq.{get_or-drop}
use Rattle.lists.specs.Number.{number}
use Rattle.nick.specs.Numbers.{Bytes}
use Rattle.nick.specs.Registers.{base_number}
use Rattle.nick.specs.Blocks.{decoded, block_at, vint, vres, reload}
use Rattle.nick.specs.Slots.{mode_number, mode_numbered}
use Rattle.nick.specs.Colour.{colour_number}
use Rattle.nick.specs.Listing.{colour_count, numbers_after_name, block_line, block_lines, blocks_listed, listing}
use Rattle.text.specs.Decimal.{TAB, decimal, tabbed}
use Rattle.lists.proofs.Below.{below_eight}
use Rattle.nick.specs.declared.Registers.{Registers}
use Rattle.listing.specs.Modes.{name_of}
use Rattle.listing.specs.WrittenLines.{line_after, word_line}
use Rattle.text.proofs.Decimal.{decimal_length}
use Rattle.listing.proofs.Pieces.{header, ending, line_length, word_length, listing_text}
use Rattle.listing.proofs.BlocksLeft.{listed_limit}

-- bytes of a part of a list of bytes
bytes_take : (n : ℕ) (xs : List ℕ) → Bytes xs → Bytes (take n xs)
bytes_take zero xs h i = omega arith
bytes_take (suc n) [] h i = omega arith
bytes_take (suc n) (x ∷ xs) h zero = h zero
bytes_take (suc n) (x ∷ xs) h (suc i) = bytes_take n xs (λ j. h (suc j)) i

bytes_drop : (n : ℕ) (xs : List ℕ) → Bytes xs → Bytes (drop n xs)
bytes_drop n xs h i = rw (get_or-drop n xs i 0) (h (n + i))

-- numbers of at most so many digits, and what they take with a tab before each
abbrev Digits : List ℕ → List ℕ → Type 0
Digits [] [] = Unit
Digits [] (n ∷ ns) = ⊥
Digits (k ∷ ks) [] = ⊥
Digits (k ∷ ks) (n ∷ ns) = (length (decimal n) ≤ k) × Digits ks ns

abbrev with_tabs : List ℕ → ℕ
with_tabs [] = 0
with_tabs (k ∷ ks) = suc k + with_tabs ks

tabbed_bound : (ks ns : List ℕ) → Digits ks ns → length (tabbed ns) ≤ with_tabs ks
unfolding tabbed
tabbed_bound [] [] h = omega arith
tabbed_bound [] (n ∷ ns) h = absurd h
tabbed_bound (k ∷ ks) [] h = absurd h
tabbed_bound (k ∷ ks) (n ∷ ns) h =
    omega (arith, tabbed_bound ks ns h.1, length-append (TAB ∷ decimal n) (tabbed ns))

bit_digits : (b : Bool) → length (decimal (number b)) ≤ 1
bit_digits true = decimal_length 0 1 (omega arith)
bit_digits false = decimal_length 0 0 (omega arith)

colour_digits : (n : ℕ) → length (decimal (colour_count n)) ≤ 3
unfolding colour_count
colour_digits zero = decimal_length 2 2 (omega arith)
colour_digits (suc zero) = decimal_length 2 4 (omega arith)
colour_digits (suc (suc zero)) = decimal_length 2 16 (omega arith)
colour_digits (suc (suc (suc zero))) = decimal_length 2 256 (omega arith)
colour_digits (suc (suc (suc (suc n)))) = decimal_length 2 0 (omega arith)

name_bound : (mode : ℕ) → mode < 8 → length (name_of (mode_numbered mode)) ≤ 6
unfolding name_of mode_numbered
name_bound = below_eight (λ m. length (name_of (mode_numbered m)) ≤ 6) (omega arith) (omega arith) (omega arith) (omega arith) (omega arith) (omega arith) (omega arith) (omega arith)

byte_digits : (n : ℕ) → n < 256 → length (decimal n) ≤ 3
byte_digits n h = decimal_length 2 n (omega arith)

word_digits : (low high : ℕ) → low < 256 → high < 256 → length (decimal (low + 256 * high)) ≤ 5
word_digits low high h l = decimal_length 4 (low + 256 * high) (omega arith)

numbers_bound : (bytes : List ℕ) → Bytes bytes → length (tabbed (numbers_after_name (decoded bytes))) ≤ 62
unfolding decoded
numbers_bound b h =
    tabbed_bound
    (3 ∷ 1 ∷ 1 ∷ 1 ∷ 3 ∷ 3 ∷ 5 ∷ 5 ∷ 3 ∷ 3 ∷ 3 ∷ 3 ∷ 3 ∷ 3 ∷ 3 ∷ 3 ∷ [])
    (numbers_after_name (decoded b)) (
      colour_digits (colour_number (decoded b)),
      (
        bit_digits (vres (decoded b)),
        (
          bit_digits (vint (decoded b)),
          (
            bit_digits (reload (decoded b)),
            (
              byte_digits _ (h 2),
              (
                byte_digits _ (h 3),
                (
                  word_digits _ _ (h 4) (h 5),
                  (
                    word_digits _ _ (h 6) (h 7),
                    (
                      byte_digits _ (h 8),
                      (
                        byte_digits _ (h 9),
                        (
                          byte_digits _ (h 10),
                          (
                            byte_digits _ (h 11),
                            (
                              byte_digits _ (h 12),
                              (
                                byte_digits _ (h 13),
                                (
                                  byte_digits _ (h 14),
                                  (byte_digits _ (h 15), tt),
                                ),
                              ),
                            ),
                          ),
                        ),
                      ),
                    ),
                  ),
                ),
              ),
            ),
          ),
        ),
      ),
    )

pub line_bound : (n : ℕ) (bytes : List ℕ) → n < 4096 → Bytes bytes → length (block_line n (decoded bytes)) ≤ 79
line_bound n bytes h b =
    omega (
      arith,
      line_length n (decoded bytes),
      decimal_length 4 (16 * n) (omega arith),
      decimal_length 2 (256 - (decoded bytes).sc) (omega arith),
      name_bound (mode_number (decoded bytes)) (omega arith),
      numbers_bound bytes b,
    )

module _ (g : Registers) (ram : List ℕ) (low : g.lpl < 256) (bytes : Bytes ram) where
  line_at_bound : (k : ℕ) → length (line_after g ram k) ≤ 79
  unfolding block_at
  line_at_bound k =
      let n = (base_number g + k) % 4096 in
      line_bound n (take 16 (drop (16 * n) ram)) (omega arith) (bytes_take 16 (drop (16 * n) ram) (bytes_drop (16 * n) ram bytes))

  lines_bound : (k : ℕ) → length (block_lines g ram k) ≤ 79 * k
  lines_bound zero = omega arith
  lines_bound (suc k) = omega (arith, lines_bound k, line_at_bound k, length-append (block_lines g ram k) (line_after g ram k))

  -- the whole listing
  pub listing_bound : length (listing g ram) ≤ 16 + 79 * 4096 + 9
  listing_bound =
      let base = base_number g in
      let count = blocks_listed g ram in
      rw listing_text (omega (
        arith,
        length-append (word_line header (16 * base) ++ block_lines g ram count) (word_line ending count),
        length-append (word_line header (16 * base)) (block_lines g ram count),
        word_length header (16 * base),
        decimal_length 4 (16 * base) (omega arith),
        lines_bound count,
        word_length ending count,
        decimal_length 3 count (omega (arith, listed_limit g ram)),
        listed_limit g ram,
      ))
