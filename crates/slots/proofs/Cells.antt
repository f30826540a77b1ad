-- A cell's dots: each of them, with external colour and without, and those of a slot's cells.
use Rattle.std.proofs.Common.{◌≡◌, refl, sym, ap₂, add_assoc, ℕ, zero, suc, ◌+◌, ◌*◌, ◌/◌, ◌<◌, cond, List, [], ◌∷◌, ◌++◌, length, get_or, replicate, arith, ◌∙◌}
use Rattle.std.proofs.Math.Nat.{div-lt_iff_lt-mul}
use Rattle.lists.specs.Tab.{tab}
use Rattle.lists.proofs.Laws.{get_or_tab, tab_same}
use Rattle.nick.specs.Numbers.{byte_at}
use Rattle.nick.specs.Slots.{Mode}
use Rattle.nick.specs.Colour.{palette_colour}
use Rattle.nick.specs.External.{external_index, mixed_colour}
use Rattle.nick.specs.Sync.{syncs}
use Rattle.nick.specs.declared.Registers.{Registers}
use Rattle.nick.specs.declared.Block.{Block}
use Rattle.nick.specs.declared.Pixel.{Pixel}
use Rattle.nick.specs.declared.Pixel.TheVariants.{Palette, Direct}
use Rattle.colour.specs.Cell.{cell_pixel, palette_number, palette_of}
use Rattle.colour.specs.declared.Cell.{Cell}
use Rattle.colour.proofs.Cells.{cell_below}
use Rattle.fetch.specs.declared.Cells.TheVariants.{Nothing, Whole, Halves}
use Rattle.slots.specs.Shows.{pixel_shown, mixed_shown, plain_dots, shown_dots, cells_dots}

-- the eighth of dot j
pub eighth_below : (j run : ℕ) → j < 8 * run → j / run < 8
eighth_below j run h = go run h
  where
    go : (n : ℕ) → j < 8 * n → j / n < 8
    go zero k = absurd (omega arith)
    go (suc n) k = (div-lt_iff_lt-mul (omega arith)).1 k

pub plain_at : (palette : List ℕ) (cell : Cell) (run j : ℕ) → j < 8 * run → get_or (plain_dots palette cell run) j 0 ≡ pixel_shown palette (cell_pixel cell (j / run))
unfolding plain_dots
plain_at palette cell run j h = get_or_tab (λ i. pixel_shown palette (cell_pixel cell (i / run))) (8 * run) j 0 h

-- with no external input connected
pub plain_shown : (g : Registers) (palette : List ℕ) (cell : Cell) (run : ℕ) (external : List ℕ) (from : ℕ)
    → length external ≡ 0 → shown_dots g palette cell run external from ≡ plain_dots palette cell run
unfolding plain_dots shown_dots mixed_shown
plain_shown g palette cell run [] from h = refl
plain_shown g palette cell run (x ∷ external) from h = absurd (omega arith)

module _ (g : Registers) (b : Block) where
  -- by the palette's sixteen colours
  entry : (n : ℕ) → n < 16 → get_or (palette_of g b) n 0 ≡ palette_colour g b n
  unfolding palette_of
  entry n h = get_or_tab (palette_colour g b) 16 n 0 h

  mixed_by : (p : Pixel) (e : ℕ) → palette_number p < 16 → mixed_shown g (palette_of g b) p e ≡ mixed_colour g b p e
  unfolding mixed_shown mixed_colour
  mixed_by (Palette n) e h = rw (entry (external_index e) (omega arith), entry n h)
  mixed_by (Direct c) e h = rw (entry (external_index e) (omega arith))

  module _ (m : Mode) (external : List ℕ) (from : ℕ) where
    pub nothing_dots : cells_dots g b m Nothing external from ≡ replicate 16 (cond (syncs m) 0 g.border)
    unfolding cells_dots
    nothing_dots = refl

    by_rules : (cell : Cell) (run at : ℕ)
        → tab (λ j. mixed_colour g b (cell_pixel cell (j / run)) (byte_at external (at + j))) (8 * run)
        ≡ shown_dots g (palette_of g b) cell run external at
    unfolding shown_dots
    by_rules cell run at =
        tab_same (λ j. mixed_colour g b (cell_pixel cell (j / run)) (byte_at external (at + j)))
        (λ j. mixed_shown g (palette_of g b) (cell_pixel cell (j / run)) (byte_at external (at + j))) (8 * run)
        (λ j l. sym (mixed_by (cell_pixel cell (j / run)) (byte_at external (at + j)) (cell_below cell (j / run))))

    pub whole_dots : (cell : Cell) → cells_dots g b m (Whole cell) external from ≡ shown_dots g (palette_of g b) cell 2 external from
    unfolding cells_dots
    whole_dots cell = by_rules cell 2 from

    pub halves_dots : (first second : Cell)
        → cells_dots g b m (Halves first second) external from
        ≡ shown_dots g (palette_of g b) first 1 external from ++ shown_dots g (palette_of g b) second 1 external (from + 8)
    unfolding cells_dots
    halves_dots first second =
        ap₂ ◌++◌ (by_rules first 1 from)
        (tab_same (λ j. mixed_colour g b (cell_pixel second (j / 1)) (byte_at external (from + (8 + j))))
        (λ j. mixed_colour g b (cell_pixel second (j / 1)) (byte_at external (from + 8 + j))) 8
        (λ j l. rw (add_assoc from 8 j))
        ∙ by_rules second 1 (from + 8))
