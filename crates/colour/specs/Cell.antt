-- A display byte made ready to be shown, and the pixel at each eighth of it. Nothing here is a rule of the chip:
-- proofs/Cells.antt says that these pixels are the rules'.
use Rattle.std.specs.Prelude.{cond, List, ℕ, ◌+◌, ◌/◌, ◌%◌, eqb}
use Rattle.lists.specs.Tab.{tab}
use Rattle.nick.specs.Colour.{
  Colours,
  two,
  four,
  sixteen,
  all,
  colours_of,
  pixels_in,
  sharing,
  two_index,
  four_index,
  sixteen_index,
  graphics_added,
  graphics_byte,
  character_added,
  palette_colour,
}
use Rattle.nick.specs.declared.Registers.{Registers}
use Rattle.nick.specs.declared.Block.{Block}
use Rattle.nick.specs.declared.Pixel.{Pixel}
use Rattle.nick.specs.declared.Pixel.TheVariants.{Palette, Direct}
use Rattle.blocks.specs.Modes.{colours_named}
use Rattle.blocks.specs.declared.mode.ColourMode.{ColourMode}
use Rattle.blocks.specs.declared.mode.ColourMode.TheVariants.{Two, Four, Sixteen, All}
use Rattle.colour.specs.declared.Cell.{Cell}

-- the case that stands for a colour mode
abbrev pub case_of : Colours → ColourMode
case_of two = Two
case_of four = Four
case_of sixteen = Sixteen
case_of all = All

-- a display byte whose two-colour indices are raised by `added`
abbrev pub raised : ColourMode → ℕ → ℕ → Cell
raised colours byte added = record { colours = colours; byte = byte; low = added; high = added + 1 }

-- a PIXEL or LPIXEL display byte; the alternate bits act in two colours alone
abbrev pub graphics_in : Colours → Block → ℕ → Cell
graphics_in two b byte = raised Two (graphics_byte b byte) (graphics_added b byte)
graphics_in four b byte = raised Four byte 0
graphics_in sixteen b byte = raised Sixteen byte 0
graphics_in all b byte = raised All byte 0

unfoldable pub graphics_cell : Block → ℕ → Cell
graphics_cell b byte = graphics_in (colours_of b) b byte

-- a display byte of the character modes
unfoldable pub character_cell : Block → ℕ → ℕ → Cell
character_cell b code byte = raised (case_of (colours_of b)) byte (character_added b code)

-- a display byte of ATTR
unfoldable pub attribute_cell : ℕ → ℕ → Cell
attribute_cell attribute byte = record { colours = Two; byte = byte; low = attribute / 16; high = attribute % 16 }

-- pixel k of a display byte
abbrev pub pixel_in : Colours → Cell → ℕ → Pixel
pixel_in two cell k = Palette (cond (eqb (two_index cell.byte k) 0) (cell.low % 16) (cell.high % 16))
pixel_in four cell k = Palette (four_index cell.byte k)
pixel_in sixteen cell k = Palette (sixteen_index cell.byte k)
pixel_in all cell k = Direct cell.byte

-- the pixel at an eighth of the display byte, counted from the left
unfoldable pub cell_pixel : Cell → ℕ → Pixel
cell_pixel cell at =
    let cs = colours_named cell.colours in
    pixel_in cs cell (sharing (pixels_in cs) 8 at)

-- a pixel's palette number, 0 where it has none
abbrev pub palette_number : Pixel → ℕ
palette_number (Palette n) = n
palette_number (Direct c) = 0

-- the sixteen colours of the palette
unfoldable pub palette_of : Registers → Block → List ℕ
palette_of g b = tab (palette_colour g b) 16
