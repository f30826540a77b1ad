-- What each case of the code's modes stands for. Nothing here is a rule of the chip.
use Rattle.std.specs.Prelude.{ℕ}
use Rattle.nick.specs.Slots.{Mode, VSYNC, PIXEL, ATTR, CH, UNUSED, LPIXEL}
use Rattle.nick.specs.Colour.{Colours, two, four, sixteen, all}
use Rattle.blocks.specs.declared.mode.CodeWidth.{CodeWidth}
use Rattle.blocks.specs.declared.mode.CodeWidth.TheVariants.{Six, Seven, Eight}
use Rattle.blocks.specs.declared.mode.VideoMode.{VideoMode}
use Rattle.blocks.specs.declared.mode.VideoMode.TheVariants.{Vsync, Pixel, Attr, Character, Unused, Lpixel}
use Rattle.blocks.specs.declared.mode.ColourMode.{ColourMode}
use Rattle.blocks.specs.declared.mode.ColourMode.TheVariants.{Two, Four, Sixteen, All}

abbrev pub bits_in : CodeWidth → ℕ
bits_in Six = 6
bits_in Seven = 7
bits_in Eight = 8

abbrev pub mode_named : VideoMode → Mode
mode_named Vsync = VSYNC
mode_named Pixel = PIXEL
mode_named Attr = ATTR
mode_named (Character width) = CH (bits_in width)
mode_named Unused = UNUSED
mode_named Lpixel = LPIXEL

-- the number of each
abbrev pub mode_number_in : VideoMode → ℕ
mode_number_in Vsync = 0
mode_number_in Pixel = 1
mode_number_in Attr = 2
mode_number_in (Character Eight) = 3
mode_number_in (Character Seven) = 4
mode_number_in (Character Six) = 5
mode_number_in Unused = 6
mode_number_in Lpixel = 7

abbrev pub colours_named : ColourMode → Colours
colours_named Two = two
colours_named Four = four
colours_named Sixteen = sixteen
colours_named All = all

-- the number of each
abbrev pub colour_number_in : ColourMode → ℕ
colour_number_in Two = 0
colour_number_in Four = 1
colour_number_in Sixteen = 2
colour_number_in All = 3
