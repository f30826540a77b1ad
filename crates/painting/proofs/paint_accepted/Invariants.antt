-- `painting::paint_accepted`: after each turn the lines passed are painted, and the rest of both buffers is as it was.
use Rattle.painting.proofs.FrameLines.{Passed}
use Rattle.painting.proofs.paint_accepted.Given as goal

abbrev pub invariant-loop-y : goal.invariant-loop-y
invariant-loop-y l = Passed l.initial.next l.ram l.external l.height l.initial.dots l.initial.records l.y l.dots l.records l.next
