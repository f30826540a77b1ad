-- The active slots of a block, counted from the margins. Nothing here is a rule of the chip: crates/blocks/proofs/ActiveSlots.antt
-- ties it to the rules.
use Rattle.std.specs.Prelude.{ℕ, ◌+◌, ◌-◌, min}
use Rattle.nick.specs.Slots.{left_margin, right_margin}
use Rattle.nick.specs.declared.Block.{Block}

-- how many of the first n dot slots are active
abbrev pub active_before : Block → ℕ → ℕ
active_before b n = min (right_margin b) (8 + n) - left_margin b
