-- `scanline::slots_in_order`: after each turn the slots passed are painted, and the rest of the scanline is as it was.
use Rattle.std.proofs.Common.{length, take, ◌*◌, ◌≡◌, ◌≤◌}
use Rattle.nick.specs.Numbers.{byte_at}
use Rattle.nick.specs.Scanline.{pointers_after, slots_fetched, slots_dots}
use Rattle.scanline.proofs.slots_in_order.Given as goal

abbrev pub invariant-loop-n : goal.invariant-loop-n
invariant-loop-n l = record {
  dots : take (16 * l.n) l.out ≡ slots_dots l.fn.registers l.ram l.fn.begun.block l.n l.fn.begun.at (byte_at l.external);
  at : l.slot.at ≡ pointers_after l.fn.begun.block l.n l.fn.begun.at;
  fetched : l.slot.fetched ≡ length (slots_fetched l.ram l.fn.begun.block l.n l.fn.begun.at);
  few : l.slot.fetched ≤ 2 * l.n;
}
