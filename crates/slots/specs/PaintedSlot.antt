-- What the painting of one slot answers, as equations with the rules.
use Rattle.std.specs.Prelude.{ℕ, ◌≤◌, ◌≡◌, List, length}
use Rattle.nick.specs.Numbers.{byte_at}
use Rattle.nick.specs.Scanline.{active_at, past_slot, slot_addresses, slot_dots}
use Rattle.nick.specs.declared.Registers.{Registers}
use Rattle.nick.specs.declared.Pointers.{Pointers}
use Rattle.nick.specs.declared.Block.{Block}
use Rattle.slots.specs.declared.Slot.{Slot}

-- dot slot n painted, active or not; `external` has the scanline's bytes
pub record AnySlot (g : Registers) (ram : List ℕ) (b : Block) (n : ℕ) (p : Pointers) (external out : List ℕ) (r : Slot) : Type 0 where
  pub dots : out ≡ slot_dots g ram b n p (byte_at external)
  pub at : r.at ≡ past_slot (active_at b n) b p
  pub fetched : r.fetched ≡ length (slot_addresses (active_at b n) ram b p)
  pub few : r.fetched ≤ 2
