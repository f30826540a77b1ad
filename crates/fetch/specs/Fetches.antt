-- What a slot fetches, as the cells that it shows. Nothing here is a rule of the chip: crates/fetch/proofs/SlotDots.antt says that
-- the dots of these cells are the rules'.
use Rattle.std.specs.Prelude.{ℕ, ◌-◌, ◌/◌, Bool, cond, List, nat_lt}
use Rattle.nick.specs.Numbers.{up, byte_at}
use Rattle.nick.specs.Slots.{Mode, VSYNC, PIXEL, ATTR, CH, UNUSED, LPIXEL, font_address, slot_pointers}
use Rattle.nick.specs.External.{mixed_colour}
use Rattle.nick.specs.Sync.{syncs}
use Rattle.nick.specs.declared.Registers.{Registers}
use Rattle.nick.specs.declared.Pointers.{Pointers}
use Rattle.nick.specs.declared.Block.{Block}
use Rattle.nick.specs.declared.Pixel.{Pixel}
use Rattle.colour.specs.Cell.{graphics_cell, character_cell, attribute_cell, cell_pixel}
use Rattle.colour.specs.declared.Cell.{Cell}
use Rattle.fetch.specs.declared.Cells.{Cells}
use Rattle.fetch.specs.declared.Cells.TheVariants.{Nothing, Whole, Halves}
use Rattle.fetch.specs.declared.Fetched.{Fetched}

-- one cell over all sixteen dots
abbrev pub one_cell : Cell → Pointers → ℕ → Fetched
one_cell cell p n = record { cells = Whole cell; at = p; count = n }

-- nothing
abbrev pub no_fetch : Pointers → Fetched
no_fetch p = record { cells = Nothing; at = p; count = 0 }

-- what an active slot fetches in a video mode
abbrev pub fetched_in : Mode → List ℕ → Block → Pointers → Fetched
fetched_in VSYNC ram b p = no_fetch p
fetched_in PIXEL ram b p = record {
  cells = Halves (graphics_cell b (byte_at ram p.ld1)) (graphics_cell b (byte_at ram (up 1 p.ld1)));
  at = slot_pointers PIXEL p;
  count = 2;
}
fetched_in ATTR ram b p =
    one_cell (attribute_cell (byte_at ram p.ld1) (byte_at ram p.ld2)) (slot_pointers ATTR p) 2
fetched_in (CH width) ram b p =
    let code = byte_at ram p.ld1 in
    let font = font_address width p.ld2 code in
    one_cell (character_cell b code (byte_at ram font)) (slot_pointers (CH width) p) 2
fetched_in UNUSED ram b p = no_fetch p
fetched_in LPIXEL ram b p = one_cell (graphics_cell b (byte_at ram p.ld1)) (slot_pointers LPIXEL p) 1

-- what a slot fetches, active or not
abbrev pub fetched_at : Bool → Mode → List ℕ → Block → Pointers → Fetched
fetched_at active m ram b p = cond active (fetched_in m ram b p) (no_fetch p)

-- the pixel that dot j of two cells of eight dots shows
abbrev pub halves_pixel : Cell → Cell → ℕ → Pixel
halves_pixel first second j = cond (nat_lt j 8) (cell_pixel first j) (cell_pixel second (j - 8))

-- the colour of dot j of a slot in a video mode, `e` being its external byte: with no cells it is BORDER, blank in VSYNC
abbrev pub slot_dot : Registers → Block → Mode → Cells → ℕ → ℕ → ℕ
slot_dot g b m Nothing j e = cond (syncs m) 0 g.border
slot_dot g b m (Whole cell) j e = mixed_colour g b (cell_pixel cell (j / 2)) e
slot_dot g b m (Halves first second) j e = mixed_colour g b (halves_pixel first second j) e
