-- `text::number::number_of`: the bytes passed are digits, and the value is the number that they spell, at most 65,536.
use Rattle.std.proofs.Common.{min, take, true, ◌≡◌}
use Rattle.text.specs.Reading.{digits, value_from}
use Rattle.text.proofs.number.number_of.Given as goal

abbrev pub invariant-loop-byte : goal.invariant-loop-byte
invariant-loop-byte l =
    (digits (take l.byte-index l.text) ≡ true) × (l.value ≡ min (value_from 0 (take l.byte-index l.text)) 65536)
