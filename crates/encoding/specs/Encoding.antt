-- The state as 32 bytes.
use Rattle.std.specs.Prelude.{ℕ, ◌+◌, ◌*◌, List, [], ◌∷◌, take, drop}
use Rattle.lists.specs.Number.{number}
use Rattle.nick.specs.Numbers.{is_set, low, high, byte_at, pair_at}
use Rattle.nick.specs.Blocks.{decoded}
use Rattle.nick.specs.declared.Scan.{Scan}
use Rattle.nick.specs.declared.State.{State}

-- bit 0 reload pending, bit 1 VIRQ low, bit 2 sync on, the rest zero
unfoldable pub flags_of : State → ℕ
flags_of s = number s.scan.pending + 2 * number s.virq + 4 * number s.sync

-- FIXBIAS, BORDER, LPL, LPH, flags, a zero, block number, LD1, LD2, scanlines left, two zeros, and the stored block: SC, MB, LM,
-- RM, LD1, LD2, COL0 to COL7
unfoldable pub encoded : State → List ℕ
encoded s =
    s.registers.fixbias ∷ s.registers.border ∷ s.registers.lpl ∷ s.registers.lph
    ∷ flags_of s ∷ 0 ∷ low s.scan.number ∷ high s.scan.number
    ∷ low s.scan.at.ld1 ∷ high s.scan.at.ld1 ∷ low s.scan.at.ld2 ∷ high s.scan.at.ld2
    ∷ low s.scan.left ∷ high s.scan.left ∷ 0 ∷ 0
    ∷ s.scan.block.sc ∷ s.scan.block.mb ∷ s.scan.block.lm ∷ s.scan.block.rm
    ∷ low s.scan.block.start.ld1 ∷ high s.scan.block.start.ld1
    ∷ low s.scan.block.start.ld2 ∷ high s.scan.block.start.ld2
    ∷ byte_at s.scan.block.col 0 ∷ byte_at s.scan.block.col 1 ∷ byte_at s.scan.block.col 2
    ∷ byte_at s.scan.block.col 3 ∷ byte_at s.scan.block.col 4 ∷ byte_at s.scan.block.col 5
    ∷ byte_at s.scan.block.col 6 ∷ byte_at s.scan.block.col 7 ∷ []

-- where the chip stands in the table, from a state's bytes
unfoldable pub scan_of : List ℕ → Scan
scan_of b = record {
  pending = is_set 0 (byte_at b 4);
  block = decoded (take 16 (drop 16 b));
  number = pair_at b 6;
  at = record { ld1 = pair_at b 8; ld2 = pair_at b 10 };
  left = pair_at b 12;
}

-- the state that 32 bytes hold; the zeros and the other bits of the flags are ignored
unfoldable pub state_of : List ℕ → State
state_of b = record {
  registers = record { fixbias = byte_at b 0; border = byte_at b 1; lpl = byte_at b 2; lph = byte_at b 3 };
  scan = scan_of b;
  virq = is_set 1 (byte_at b 4);
  sync = is_set 2 (byte_at b 4);
}
