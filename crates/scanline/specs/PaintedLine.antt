-- What the painting of a scanline and its parts answer, as equations with the rules.
use Rattle.std.specs.Prelude.{◌≡◌, ℕ, ◌-◌, ◌≤◌, List, length}
use Rattle.nick.specs.Numbers.{byte_at}
use Rattle.nick.specs.Slots.{mode_of, line_pointers}
use Rattle.nick.specs.Scanline.{pointers_after, begun_dots, begun_fetches, line_dots}
use Rattle.nick.specs.Record.{line_record, next_state}
use Rattle.nick.specs.declared.Registers.{Registers}
use Rattle.nick.specs.declared.Pointers.{Pointers}
use Rattle.nick.specs.declared.Scan.{Scan}
use Rattle.nick.specs.declared.State.{State}
use Rattle.slots.specs.declared.Slot.{Slot}

-- the pointers after the dot slots of a scanline that has begun
unfoldable pub slots_end : Scan → Pointers
slots_end c = pointers_after c.block 46 c.at

-- the 46 dot slots of a scanline that has begun
pub record Slots (g : Registers) (ram : List ℕ) (c : Scan) (external out : List ℕ) (r : Slot) : Type 0 where
  pub dots : out ≡ begun_dots g ram c (byte_at external)
  pub at : r.at ≡ slots_end c
  pub fetched : r.fetched ≡ length (begun_fetches ram c)
  pub few : r.fetched ≤ 92

-- a scanline's end, its slots having left the pointers p
unfoldable pub ended_at : Scan → Pointers → Scan
ended_at c p = record {
  pending = c.pending;
  block = c.block;
  number = c.number;
  at = line_pointers (mode_of c.block) p;
  left = c.left - 1;
}

-- a scanline painted; `external` has its bytes
pub record Line (s : State) (ram external out recorded : List ℕ) (r : State) : Type 0 where
  pub dots : out ≡ line_dots s.registers ram s.scan (byte_at external)
  pub bytes : recorded ≡ line_record ram s
  pub state : r ≡ next_state ram s
