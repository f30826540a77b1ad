-- The name and the number of colours of each mode.
use Rattle.std.specs.Prelude.{ℕ, cond, List, codes, eqb}
use Rattle.nick.specs.Slots.{Mode, VSYNC, PIXEL, ATTR, CH, UNUSED, LPIXEL}
use Rattle.nick.specs.Colour.{Colours, two, four, sixteen, all}

unfoldable pub name_of : Mode → List ℕ
name_of VSYNC = codes "VSYNC"
name_of PIXEL = codes "PIXEL"
name_of ATTR = codes "ATTR"
name_of (CH width) = cond (eqb width 8) (codes "CH256") (cond (eqb width 7) (codes "CH128") (codes "CH64"))
name_of UNUSED = codes "UNUSED"
name_of LPIXEL = codes "LPIXEL"

unfoldable pub count_of : Colours → ℕ
count_of two = 2
count_of four = 4
count_of sixteen = 16
count_of all = 256
