-- `text::Writer::put_fields`: the numbers passed are written.
use Rattle.std.proofs.Common.{take, ◌≡◌}
use Rattle.text.specs.Decimal.{tabbed}
use Rattle.text.specs.Writing.{wrote}
use Rattle.text.proofs.Writer.put_fields.Given as goal

abbrev pub invariant-loop-n : goal.invariant-loop-n
invariant-loop-n l = l.self ≡ wrote l.initial.self (tabbed (take l.n-index l.numbers))
