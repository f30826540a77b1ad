-- What the functions behind the direct answer say of one dot: it is shown from the bytes at the addresses that it names.
use Rattle.std.specs.Prelude.{ℕ, ◌/◌, ◌%◌, cond, List, [], ◌∷◌}
use Rattle.nick.specs.Slots.{Mode, VSYNC, PIXEL, ATTR, CH, UNUSED, LPIXEL, mode_of}
use Rattle.nick.specs.External.{dot_colour, mixed_colour}
use Rattle.nick.specs.Scanline.{active_at, pointers_after, dot_at}
use Rattle.nick.specs.Sync.{syncs}
use Rattle.nick.specs.Direct.{Answered, shows, named_in}
use Rattle.nick.specs.declared.Registers.{Registers}
use Rattle.nick.specs.declared.Block.{Block}
use Rattle.nick.specs.declared.Scan.{Scan}
use Rattle.colour.specs.Cell.{graphics_cell, character_cell, attribute_cell, cell_pixel}
use Rattle.colour.specs.declared.Cell.{Cell}

-- the display byte of a dot made ready, from the bytes that the dot comes from
abbrev pub cell_from : Mode → Block → ℕ → ℕ → Cell
cell_from VSYNC b first second = graphics_cell b first
cell_from PIXEL b first second = graphics_cell b first
cell_from ATTR b first second = attribute_cell first second
cell_from (CH width) b first second = character_cell b first second
cell_from UNUSED b first second = graphics_cell b first
cell_from LPIXEL b first second = graphics_cell b first

-- which eighth of its display byte dot j of a slot shows: in PIXEL a byte has eight dots, else sixteen
abbrev pub eighth_of : Mode → ℕ → ℕ
eighth_of VSYNC j = j / 2
eighth_of PIXEL j = j % 8
eighth_of ATTR j = j / 2
eighth_of (CH width) j = j / 2
eighth_of UNUSED j = j / 2
eighth_of LPIXEL j = j / 2

-- the colour of dot j of a slot, from the bytes that it comes from
unfoldable pub byte_colour : Registers → Block → ℕ → ℕ → ℕ → ℕ → ℕ
byte_colour g b first second j e =
    mixed_colour g b (cell_pixel (cell_from (mode_of b) b first second) (eighth_of (mode_of b) j)) e

-- the same from the list of these bytes; with none it is BORDER, blank in VSYNC
abbrev pub sourced_colour : Registers → Block → List ℕ → ℕ → ℕ → ℕ
sourced_colour g b [] j e = cond (syncs (mode_of b)) 0 g.border
sourced_colour g b (first ∷ []) j e = byte_colour g b first 0 j e
sourced_colour g b (first ∷ second ∷ more) j e = byte_colour g b first second j e

-- dot x of a scanline that has begun as c says, by the rules
unfoldable pub dot_answer : Registers → List ℕ → Scan → ℕ → ℕ → Answered
dot_answer g ram c x e =
    let b = c.block in
    let p = pointers_after b (x / 16) c.at in
    shows (record { colour = dot_colour g b (dot_at (active_at b (x / 16)) ram b p (x % 16)) e; names = named_in ram c x })
