-- `script::steps::do_steps`: as long as no step is refused, the steps ahead lead to the same end as all from the beginning.
use Rattle.script.proofs.Going.{Going}
use Rattle.script.proofs.steps.do_steps.Given as goal

abbrev pub invariant-loop-place : goal.invariant-loop-place
invariant-loop-place l = Going l.initial.bench.state l.ram l.script l.external l.initial.dots l.initial.records l.place l.bench l.dots l.records
