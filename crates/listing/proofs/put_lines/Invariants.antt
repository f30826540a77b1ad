-- `listing::put_lines`: the lines of the blocks passed are written.
use Rattle.std.proofs.Common.{◌≡◌}
use Rattle.nick.specs.Listing.{block_lines}
use Rattle.text.specs.Writing.{wrote}
use Rattle.listing.proofs.put_lines.Given as goal

abbrev pub invariant-loop-k : goal.invariant-loop-k
invariant-loop-k l = l.writer ≡ wrote l.initial.writer (block_lines l.fn.registers l.ram l.k)
