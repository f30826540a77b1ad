-- `records::sync::sync_line`: after each turn the level and the count are the rules' over the slots passed.
use Rattle.std.proofs.Common.{◌≡◌, ◌≤◌}
use Rattle.nick.specs.Sync.{sync_after, sync_count}
use Rattle.records.proofs.sync.sync_line.Given as goal

abbrev pub invariant-loop-slot : goal.invariant-loop-slot
invariant-loop-slot l = record {
  level : l.sync.on ≡ sync_after l.block l.slot l.on;
  slots : l.sync.count ≡ sync_count l.block l.slot l.on;
  few : l.sync.count ≤ l.slot;
}
