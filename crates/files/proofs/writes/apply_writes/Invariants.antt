-- After n turns the first n writes are applied.
use Rattle.std.proofs.Common.{◌≡◌}
use Rattle.nick.specs.Refusals.{refusal_in}
use Rattle.files.specs.Writes.{written_all}
use Rattle.files.proofs.writes.apply_writes.Given as goal

abbrev pub invariant-loop-port : goal.invariant-loop-port
invariant-loop-port l =
    (l.state ≡ (written_all l.bytes l.port-index).state) × (refusal_in l.written ≡ (written_all l.bytes l.port-index).refusal)
