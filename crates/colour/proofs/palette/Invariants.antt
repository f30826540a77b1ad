-- `colour::palette`: after n turns the first n colours are written.
use Rattle.std.proofs.Common.{take, ◌≡◌}
use Rattle.lists.specs.Tab.{tab}
use Rattle.nick.specs.Colour.{palette_colour}
use Rattle.colour.proofs.palette.Given as goal

abbrev pub invariant-loop-n : goal.invariant-loop-n
invariant-loop-n l = take l.n l.colour-items ≡ tab (palette_colour l.registers l.block) l.n
