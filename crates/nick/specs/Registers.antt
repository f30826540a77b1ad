-- Document 01, "Registers": writes of ports 128 to 143, the base block number, and the fresh state.
use Rattle.std.specs.Prelude.{ℕ, ◌+◌, ◌*◌, ◌%◌, Bool, true, false, not, cond, ◌||◌, ◌&&◌, eqb, leb, ltb, replicate}
use Rattle.nick.specs.Numbers.{is_set}
use Rattle.nick.specs.declared.Registers.{Registers}
use Rattle.nick.specs.declared.Pointers.{Pointers}
use Rattle.nick.specs.declared.Block.{Block}
use Rattle.nick.specs.declared.Scan.{Scan}
use Rattle.nick.specs.declared.State.{State}

-- "The base block number is (LPH mod 16) times 256 plus LPL."
abbrev pub base_number : Registers → ℕ
base_number g = g.lph % 16 * 256 + g.lpl

-- refusal 1: "port outside 128 to 143"; refusal 2: "port 132 to 143 (reserved)"; 0 where neither applies
abbrev pub write_refusal : ℕ → ℕ
write_refusal port = cond (ltb port 128 || ltb 143 port) 1 (cond (leb 132 port) 2 0)

-- "Port 128 FIXBIAS, 129 BORDER, 130 LPL, 131 LPH."
unfoldable pub written_registers : Registers → ℕ → ℕ → Registers
written_registers g port value = record {
  fixbias = cond (eqb port 128) value g.fixbias;
  border = cond (eqb port 129) value g.border;
  lpl = cond (eqb port 130) value g.lpl;
  lph = cond (eqb port 131) value g.lph;
}

-- "A write of LPH with bit 7 clear sets a pending forced reload; a write with bit 7 set doesn't take it away."
abbrev pub pending_after_write : Bool → ℕ → ℕ → Bool
pending_after_write pending port value = pending || (eqb port 131 && not (is_set 7 value))

unfoldable pub written_scan : Scan → ℕ → ℕ → Scan
written_scan c port value = record {
  pending = pending_after_write c.pending port value;
  block = c.block;
  number = c.number;
  at = c.at;
  left = c.left;
}

-- "A refused register write returns the state as given."
unfoldable pub written : State → ℕ → ℕ → State
written s port value =
    cond (eqb (write_refusal port) 0)
    (record {
      registers = written_registers s.registers port value;
      scan = written_scan s.scan port value;
      virq = s.virq;
      sync = s.sync;
    })
    s

-- "The fresh state (house): FIXBIAS 0, BORDER 0, LPL 0, LPH 192, reload pending, stored block all zeros, block number 0,
-- pointers 0, scanlines left 0, VIRQ high, sync off."
abbrev pub zero_pointers : Pointers
zero_pointers = record { ld1 = 0; ld2 = 0 }

abbrev pub zero_block : Block
zero_block = record { sc = 0; mb = 0; lm = 0; rm = 0; start = zero_pointers; col = replicate 8 0 }

abbrev pub fresh_state : State
fresh_state = record {
  registers = record { fixbias = 0; border = 0; lpl = 0; lph = 192 };
  scan = record { pending = true; block = zero_block; number = 0; at = zero_pointers; left = 0 };
  virq = false;
  sync = false;
}
