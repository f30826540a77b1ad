-- `walk::walk`: after each turn the scan is the one after the scanlines done.
use Rattle.std.proofs.Common.{◌-◌, ◌≤◌}
use Rattle.walk.specs.Walks.{Reached}
use Rattle.walk.proofs.walk.Given as goal

abbrev pub invariant-loop-done : goal.invariant-loop-done
invariant-loop-done l = record { within : l.done ≤ l.lines; reached : Reached l.registers l.ram l.initial.at l.done l.at }

abbrev pub decreases-loop-done : goal.decreases-loop-done
decreases-loop-done l = l.lines - l.done
