-- The pixels of a cell are the rules' pixels.
use mathlib.Core.Path.{◌≡◌, refl, ap}
use Prim.Native.Nat.{ℕ, ◌+◌, ◌-◌, ◌*◌, ◌/◌, ◌%◌, ◌<◌}
use mathlib.Core.Bool.{Bool, true, false, cond, ◌&&◌}
use native.Mathlib.Nat.{mod-lt}
use native.Mathlib.Omega.{arith}
use lib.Dec.{eqb, lit<}
use Rattle.lists.proofs.Tests.{cond_below}
use Rattle.nick.specs.Numbers.{bit, is_set}
use Rattle.nick.specs.Colour.{
  Colours,
  two,
  four,
  sixteen,
  all,
  colours_of,
  pixels_in,
  sharing,
  pixel_of,
  msb_alternate,
  lsb_alternate,
  graphics_added,
  graphics_byte,
  graphics_pixel,
  character_added,
  attribute_pixel,
}
use Rattle.nick.specs.declared.Block.{Block}
use Rattle.nick.specs.declared.Pixel.TheVariants.{Palette}
use Rattle.colour.specs.Cell.{case_of, raised, graphics_in, graphics_cell, character_cell, attribute_cell, pixel_in, cell_pixel, palette_number}
use Rattle.colour.specs.declared.Cell.{Cell}
use Rattle.blocks.specs.Modes.{colours_named}
use Rattle.blocks.specs.declared.mode.ColourMode.{ColourMode}
use Rattle.blocks.specs.declared.mode.ColourMode.TheVariants.{Two}
use Rattle.nick.proofs.Bits.{bit_below}
use Rattle.lists.proofs.Below.{below_two}
use Rattle.colour.proofs.Weights.{four_below, sixteen_below}

-- what the alternate bits add stays below 15
added_below : (s t : Bool) → cond s 2 0 + cond t 4 0 < 15
added_below true true = lit< tt
added_below true false = lit< tt
added_below false true = lit< tt
added_below false false = lit< tt

graphics_below : (b : Block) (byte : ℕ) → graphics_added b byte < 15
unfolding graphics_added
graphics_below b byte = added_below (msb_alternate b byte) (lsb_alternate b byte)

character_below : (b : Block) (code : ℕ) → character_added b code < 15
unfolding character_added
character_below b code = added_below (is_set 7 b.rm && is_set 7 code) (is_set 6 b.rm && is_set 6 code)

-- an index below 2 that is raised
raised_index : (i added : ℕ) → i < 2 → added < 15 → cond (eqb i 0) (added % 16) ((added + 1) % 16) ≡ i + added
raised_index i added hi h =
    below_two (λ n. cond (eqb n 0) (added % 16) ((added + 1) % 16) ≡ n + added) (omega arith) (omega arith) i hi

-- a raised cell's pixels, in every colour mode
raised_pixel :
    (cs : Colours) (mode : ColourMode) (byte added k : ℕ) → added < 15 →
    pixel_in cs (raised mode byte added) k ≡ pixel_of cs added byte k
raised_pixel two mode byte added k h = ap Palette (raised_index (bit (7 - k) byte) added (bit_below (7 - k) byte) h)
raised_pixel four mode byte added k h = refl
raised_pixel sixteen mode byte added k h = refl
raised_pixel all mode byte added k h = refl

-- a PIXEL or LPIXEL cell's pixels, in every colour mode
graphics_in_pixel :
    (cs : Colours) (b : Block) (byte at : ℕ) →
    cell_pixel (graphics_in cs b byte) at ≡ graphics_pixel cs b byte (sharing (pixels_in cs) 8 at)
unfolding cell_pixel
graphics_in_pixel two b byte at =
    raised_pixel two Two (graphics_byte b byte) (graphics_added b byte) (at * 8 / 8) (graphics_below b byte)
graphics_in_pixel four b byte at = refl
graphics_in_pixel sixteen b byte at = refl
graphics_in_pixel all b byte at = refl

pub graphics_pixel_lem :
    (b : Block) (byte at : ℕ) →
    cell_pixel (graphics_cell b byte) at ≡ graphics_pixel (colours_of b) b byte (sharing (pixels_in (colours_of b)) 8 at)
unfolding graphics_cell
graphics_pixel_lem b byte at = graphics_in_pixel (colours_of b) b byte at

-- the name of a colour mode's case
named_case : (cs : Colours) → colours_named (case_of cs) ≡ cs
named_case two = refl
named_case four = refl
named_case sixteen = refl
named_case all = refl

pub character_pixel :
    (b : Block) (code byte at : ℕ) →
    cell_pixel (character_cell b code byte) at
    ≡ pixel_of (colours_of b) (character_added b code) byte (sharing (pixels_in (colours_of b)) 8 at)
unfolding cell_pixel character_cell
character_pixel b code byte at =
    let cs = colours_of b in
    rw (named_case cs)
    (raised_pixel cs (case_of cs) byte (character_added b code) (sharing (pixels_in cs) 8 at) (character_below b code))

pub attribute_pixel_lem :
    (attribute byte at : ℕ) → attribute < 256 →
    cell_pixel (attribute_cell attribute byte) at ≡ attribute_pixel attribute byte (sharing (pixels_in two) 8 at)
unfolding cell_pixel attribute_cell
attribute_pixel_lem attribute byte at h =
    let e : attribute / 16 % 16 ≡ attribute / 16 = omega arith in
    let f : attribute % 16 % 16 ≡ attribute % 16 = omega arith in
    rw (e, f)

-- dot j of a byte with 16 dots stands at eighth j / 2
pub sharing_halves : (cs : Colours) (j : ℕ) → sharing (pixels_in cs) 16 j ≡ sharing (pixels_in cs) 8 (j / 2)
sharing_halves two j = omega arith
sharing_halves four j = omega arith
sharing_halves sixteen j = omega arith
sharing_halves all j = omega arith

in_below : (cs : Colours) (cell : Cell) (k : ℕ) → palette_number (pixel_in cs cell k) < 16
in_below two cell k =
    let clear = eqb (bit (7 - k) cell.byte) 0 in
    cond_below clear (cell.low % 16) (cell.high % 16) 16 (mod-lt cell.low (lit< tt)) (mod-lt cell.high (lit< tt))
in_below four cell k = four_below cell.byte k
in_below sixteen cell k = sixteen_below cell.byte k
in_below all cell k = lit< tt

-- a cell's palette numbers are below 16, whatever it holds
pub cell_below : (cell : Cell) (at : ℕ) → palette_number (cell_pixel cell at) < 16
unfolding cell_pixel
cell_below cell at =
    let cs = colours_named cell.colours in
    in_below cs cell (sharing (pixels_in cs) 8 at)
