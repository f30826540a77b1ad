-- `listing::blocks_listed`: after k blocks without RELOAD, all that are listed are k and those from the next block on.
use Rattle.std.proofs.Common.{◌+◌, ◌≡◌}
use Rattle.listing.proofs.BlocksLeft.{blocks_after}
use Rattle.listing.proofs.blocks_listed.Given as goal

abbrev pub invariant-loop-k : goal.invariant-loop-k
invariant-loop-k l = blocks_after 4096 l.ram l.base.value 0 ≡ l.k + blocks_after 4096 l.ram l.base.value l.k
