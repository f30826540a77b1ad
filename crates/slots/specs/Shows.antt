-- The dots that a slot's cells show: pixels in runs of dots, with no external colour and with it.
use Rattle.std.specs.Prelude.{ℕ, zero, suc, ◌+◌, ◌*◌, ◌/◌, cond, eqb, List, [], ◌++◌, get_or, replicate}
use Rattle.lists.specs.Tab.{tab}
use Rattle.nick.specs.Numbers.{byte_at}
use Rattle.nick.specs.Slots.{Mode}
use Rattle.nick.specs.Colour.{two_index, four_index, sixteen_index}
use Rattle.nick.specs.External.{external_index, external_wins}
use Rattle.nick.specs.declared.Registers.{Registers}
use Rattle.nick.specs.declared.Block.{Block}
use Rattle.nick.specs.declared.Pixel.{Pixel}
use Rattle.nick.specs.declared.Pixel.TheVariants.{Palette, Direct}
use Rattle.colour.specs.Cell.{cell_pixel}
use Rattle.colour.specs.declared.Cell.{Cell}
use Rattle.fetch.specs.Fetches.{slot_dot}
use Rattle.fetch.specs.declared.Cells.{Cells}

-- n pixels of the colours g 0, g 1, .. , each in `run` dots
abbrev pub runs : (ℕ → ℕ) → ℕ → ℕ → List ℕ
runs g zero run = []
runs g (suc n) run = runs g n run ++ replicate run (g n)

-- the colour of pixel k of a byte: in two colours, that of a clear or of a set bit; in four and in sixteen by the palette
abbrev pub two_shown : ℕ → ℕ → ℕ → ℕ → ℕ
two_shown byte clear set k = cond (eqb (two_index byte k) 0) clear set

abbrev pub four_shown : List ℕ → ℕ → ℕ → ℕ
four_shown palette byte k = get_or palette (four_index byte k) 0

abbrev pub sixteen_shown : List ℕ → ℕ → ℕ → ℕ
sixteen_shown palette byte k = get_or palette (sixteen_index byte k) 0

-- the colour of a pixel by the palette, and with external byte e
abbrev pub pixel_shown : List ℕ → Pixel → ℕ
pixel_shown palette (Palette n) = get_or palette n 0
pixel_shown palette (Direct c) = c

unfoldable pub mixed_shown : Registers → List ℕ → Pixel → ℕ → ℕ
mixed_shown g palette p e = cond (external_wins g p e) (get_or palette (external_index e) 0) (pixel_shown palette p)

-- the dots of a cell by the palette, each eighth of it in `run` dots
unfoldable pub plain_dots : List ℕ → Cell → ℕ → List ℕ
plain_dots palette cell run = tab (λ j. pixel_shown palette (cell_pixel cell (j / run))) (8 * run)

-- the same with external colour, the external byte of dot j being number from + j
abbrev pub shown_dot : Registers → List ℕ → Cell → ℕ → List ℕ → ℕ → ℕ → ℕ
shown_dot g palette cell run external from j = mixed_shown g palette (cell_pixel cell (j / run)) (byte_at external (from + j))

unfoldable pub shown_dots : Registers → List ℕ → Cell → ℕ → List ℕ → ℕ → List ℕ
shown_dots g palette cell run external from = tab (shown_dot g palette cell run external from) (8 * run)

-- the sixteen dots of a slot, likewise
unfoldable pub cells_dots : Registers → Block → Mode → Cells → List ℕ → ℕ → List ℕ
cells_dots g b m cells external from = tab (λ j. slot_dot g b m cells j (byte_at external (from + j))) 16
