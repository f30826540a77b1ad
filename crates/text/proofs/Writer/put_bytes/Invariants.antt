-- `text::Writer::put_bytes`: the bytes passed are written.
use Rattle.std.proofs.Common.{take, ◌≡◌}
use Rattle.text.specs.Writing.{wrote}
use Rattle.text.proofs.Writer.put_bytes.Given as goal

abbrev pub invariant-loop-byte : goal.invariant-loop-byte
invariant-loop-byte l = l.self ≡ wrote l.initial.self (take l.byte-index l.bytes)
