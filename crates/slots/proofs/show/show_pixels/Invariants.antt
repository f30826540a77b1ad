-- `slots::show::show_pixels`: after k turns the first k pixels are shown.
use Rattle.std.proofs.Common.{take, ◌*◌, ◌≡◌}
use Rattle.slots.specs.Shows.{runs}
use Rattle.slots.proofs.show.show_pixels.Given as goal

abbrev pub invariant-loop-k : goal.invariant-loop-k
invariant-loop-k g l = take (l.k * l.run) l.out ≡ runs g.colour_at l.k l.run
