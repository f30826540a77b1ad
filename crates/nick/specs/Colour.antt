-- Document 01, "From display byte to colour": pixels, palette, alternate colours, ATTR.
use Rattle.std.specs.Prelude.{ℕ, ◌+◌, ◌-◌, ◌*◌, ◌/◌, ◌%◌, Bool, cond, ◌&&◌, List, [], ◌∷◌, eqb, ltb, get_or}
use Rattle.nick.specs.Numbers.{bit, is_set, byte_at}
use Rattle.nick.specs.Slots.{Mode, VSYNC, PIXEL, ATTR, CH, UNUSED, LPIXEL}
use Rattle.nick.specs.declared.Registers.{Registers}
use Rattle.nick.specs.declared.Block.{Block}
use Rattle.nick.specs.declared.Pixel.{Pixel}
use Rattle.nick.specs.declared.Pixel.TheVariants.{Palette, Direct}

-- the colour modes: 2, 4, 16 and 256 colours
pub data Colours : Type 0 where
  two : Colours
  four : Colours
  sixteen : Colours
  all : Colours

-- "MB: .. bits 6 and 5 colour mode"
abbrev pub colour_number : Block → ℕ
colour_number b = b.mb / 32 % 4

unfoldable pub colours_numbered : ℕ → Colours
colours_numbered n = get_or (two ∷ four ∷ sixteen ∷ all ∷ []) n two

abbrev pub colours_of : Block → Colours
colours_of b = colours_numbered (colour_number b)

-- how many pixels a display byte holds
abbrev pub pixels_in : Colours → ℕ
pixels_in two = 8
pixels_in four = 4
pixels_in sixteen = 2
pixels_in all = 1

-- "Pixels share the byte's dots equally, left first": of n pixels over d dots, the one that has dot j
abbrev pub sharing : ℕ → ℕ → ℕ → ℕ
sharing n d j = j * n / d

-- "Two colours: b7 first; the bit is the index."
abbrev pub two_index : ℕ → ℕ → ℕ
two_index byte k = bit (7 - k) byte

-- "Four: pairs (b7,b3), (b6,b2), (b5,b1), (b4,b0)." Document 02, item 2: "the first bit named in a group weighs least: in four
-- colours b7 weighs 1 and b3 weighs 2"
unfoldable pub four_index : ℕ → ℕ → ℕ
four_index byte k = bit (7 - k) byte + 2 * bit (3 - k) byte

-- "Sixteen: (b7,b3,b5,b1), (b6,b2,b4,b0)." Document 02, item 2: "in sixteen b7, b3, b5, b1 weigh 1, 2, 4, 8, and the second pixel
-- likewise"
unfoldable pub sixteen_index : ℕ → ℕ → ℕ
sixteen_index byte k = bit (7 - k) byte + 2 * bit (3 - k) byte + 4 * bit (5 - k) byte + 8 * bit (1 - k) byte

-- pixel k of a display byte, its two-colour indices being raised by `added`; "256: the byte is the colour."
abbrev pub pixel_of : Colours → ℕ → ℕ → ℕ → Pixel
pixel_of two added byte k = Palette (two_index byte k + added)
pixel_of four added byte k = Palette (four_index byte k)
pixel_of sixteen added byte k = Palette (sixteen_index byte k)
pixel_of all added byte k = Direct byte

-- "In two-colour PIXEL and LPIXEL only: with LM bit 7 (MSBALT), a set b7 adds 2 to every index of the byte and b7 counts as 0;
-- with LM bit 6 (LSBALT), a set b0 adds 4 and b0 counts as 0."
abbrev pub msb_alternate : Block → ℕ → Bool
msb_alternate b byte = is_set 7 b.lm && is_set 7 byte

abbrev pub lsb_alternate : Block → ℕ → Bool
lsb_alternate b byte = is_set 6 b.lm && is_set 0 byte

unfoldable pub graphics_added : Block → ℕ → ℕ
graphics_added b byte = cond (msb_alternate b byte) 2 0 + cond (lsb_alternate b byte) 4 0

unfoldable pub graphics_byte : Block → ℕ → ℕ
graphics_byte b byte = byte - cond (msb_alternate b byte) 128 0 - cond (lsb_alternate b byte) 1 0

-- pixel k of a PIXEL or LPIXEL display byte
abbrev pub graphics_pixel : Colours → Block → ℕ → ℕ → Pixel
graphics_pixel two b byte k = pixel_of two (graphics_added b byte) (graphics_byte b byte) k
graphics_pixel four b byte k = pixel_of four 0 byte k
graphics_pixel sixteen b byte k = pixel_of sixteen 0 byte k
graphics_pixel all b byte k = pixel_of all 0 byte k

-- "In two-colour character modes only: with RM bit 7 (ALTIND1) a code with bit 7 adds 2; with RM bit 6 (ALTIND0) a code with
-- bit 6 adds 4."
unfoldable pub character_added : Block → ℕ → ℕ
character_added b code = cond (is_set 7 b.rm && is_set 7 code) 2 0 + cond (is_set 6 b.rm && is_set 6 code) 4 0

-- "ATTR always uses two colours (house): bit 0 takes the attribute's high four bits as index, bit 1 its low four."
abbrev pub attribute_pixel : ℕ → ℕ → ℕ → Pixel
attribute_pixel attribute byte k = Palette (cond (eqb (two_index byte k) 0) (attribute / 16) (attribute % 16))

-- what a dot shows before external colour
pub data Dot : Type 0 where
  blank : Dot
  border : Dot
  shown : Pixel → Dot

-- what dot j of a slot shows, from the bytes at its addresses: "8 dots each" in PIXEL, 16 in the other modes that fetch
-- "0 VSYNC: .. all 736 dots are 0"; "All other dots are BORDER"; "6 unused: .. all dots BORDER (house)"
abbrev pub dot_in : Mode → Bool → Block → Colours → List ℕ → ℕ → Dot
dot_in VSYNC active b cs bytes j = blank
dot_in PIXEL active b cs bytes j =
    cond active (shown (graphics_pixel cs b (byte_at bytes 0) (sharing (pixels_in cs) 8 (j % 8)))) border
dot_in ATTR active b cs bytes j =
    cond active (shown (attribute_pixel (byte_at bytes 0) (byte_at bytes 1) (sharing (pixels_in two) 16 j))) border
dot_in (CH width) active b cs bytes j =
    cond active (shown (pixel_of cs (character_added b (byte_at bytes 0)) (byte_at bytes 1) (sharing (pixels_in cs) 16 j))) border
dot_in UNUSED active b cs bytes j = border
dot_in LPIXEL active b cs bytes j =
    cond active (shown (graphics_pixel cs b (byte_at bytes 0) (sharing (pixels_in cs) 16 j))) border

-- "Palette 0 to 7 is COL0 to COL7; palette n from 8 is 8 times (FIXBIAS mod 32) plus n minus 8."
unfoldable pub palette_colour : Registers → Block → ℕ → ℕ
palette_colour g b n = cond (ltb n 8) (get_or b.col n 0) (8 * (g.fixbias % 32) + n - 8)

abbrev pub pixel_colour : Registers → Block → Pixel → ℕ
pixel_colour g b (Palette n) = palette_colour g b n
pixel_colour g b (Direct c) = c
