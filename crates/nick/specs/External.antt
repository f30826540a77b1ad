-- Document 01, "From display byte to colour", external colour.
use Rattle.std.specs.Prelude.{ℕ, ◌/◌, ◌%◌, Bool, true, false, not, cond, ◌&&◌, ◌||◌, [], ◌∷◌, leb, ltb, get_or}
use Rattle.nick.specs.Numbers.{is_set}
use Rattle.nick.specs.Colour.{Dot, blank, border, shown, palette_colour, pixel_colour}
use Rattle.nick.specs.declared.Registers.{Registers}
use Rattle.nick.specs.declared.Block.{Block}
use Rattle.nick.specs.declared.Pixel.{Pixel}
use Rattle.nick.specs.declared.Pixel.TheVariants.{Palette, Direct}

-- the internal index is 8 to 15; "A 256-colour dot has no index (house)."
abbrev pub high_index : Pixel → Bool
high_index (Palette n) = leb 8 n
high_index (Direct c) = false

-- "bits 0 to 3 are EC0 to EC3"
abbrev pub external_index : ℕ → ℕ
external_index e = e % 16

-- "by FIXBIAS bits 6 and 5: 0 always; 1 if the internal index is 8 to 15; 2 that, or EC below 8; 3 index 8 to 15, or EC2 clear"
unfoldable pub priority_gives : ℕ → Bool → ℕ → Bool
priority_gives priority high ec = get_or (true ∷ high ∷ (high || ltb ec 8) ∷ (high || not (is_set 2 ec)) ∷ []) priority false

-- "External colour replaces an active dot, in modes that fetch, when its bit 7 is set and by FIXBIAS bits 6 and 5"
abbrev pub external_wins : Registers → Pixel → ℕ → Bool
external_wins g p e = is_set 7 e && priority_gives (g.fixbias / 32 % 4) (high_index p) (external_index e)

-- "The new colour is palette EC."
unfoldable pub mixed_colour : Registers → Block → Pixel → ℕ → ℕ
mixed_colour g b p e = cond (external_wins g p e) (palette_colour g b (external_index e)) (pixel_colour g b p)

-- a dot's colour: 0 where it is blank, BORDER in the border
abbrev pub dot_colour : Registers → Block → Dot → ℕ → ℕ
dot_colour g b blank e = 0
dot_colour g b border e = g.border
dot_colour g b (shown p) e = mixed_colour g b p e
