-- How far LD1 and LD2 go up in a slot, in a scanline, and in several scanlines of a mode line. Nothing here is a rule of the
-- chip: crates/walk/proofs has the laws that tie it to the rules.
use Rattle.std.specs.Prelude.{◌≡◌, ℕ, ◌+◌, ◌-◌, ◌*◌, ◌≤◌, cond}
use Rattle.nick.specs.Numbers.{up}
use Rattle.nick.specs.Blocks.{vres}
use Rattle.nick.specs.Slots.{Mode, VSYNC, PIXEL, ATTR, CH, UNUSED, LPIXEL, mode_of}
use Rattle.nick.specs.declared.Pointers.{Pointers}
use Rattle.nick.specs.declared.Block.{Block}
use Rattle.nick.specs.declared.Scan.{Scan}
use Rattle.blocks.specs.ActiveSlots.{active_before}
use Rattle.walk.specs.declared.Steps.{Steps}

-- by how much LD1 and LD2 go up at an active slot, and LD2 at a scanline's end
abbrev pub steps_of : Mode → Steps
steps_of VSYNC = record { ld1 = 0; ld2 = 0; line = 0 }
steps_of PIXEL = record { ld1 = 2; ld2 = 0; line = 0 }
steps_of ATTR = record { ld1 = 1; ld2 = 1; line = 0 }
steps_of (CH width) = record { ld1 = 1; ld2 = 0; line = 1 }
steps_of UNUSED = record { ld1 = 0; ld2 = 0; line = 0 }
steps_of LPIXEL = record { ld1 = 1; ld2 = 0; line = 0 }

-- what the code knows of them
pub record StepsOf (m : Mode) (r : Steps) : Type 0 where
  pub same : r ≡ steps_of m
  pub ld1 : r.ld1 ≤ 2
  pub ld2 : r.ld2 ≤ 1
  pub line : r.line ≤ 1

-- LD1 gone up by m and LD2 by n
unfoldable pub advanced : ℕ → ℕ → Pointers → Pointers
advanced m n p = record { ld1 = up m p.ld1; ld2 = up n p.ld2 }

-- by how much LD1 and LD2 go up in the first n dot slots
abbrev pub rise1 : Block → ℕ → ℕ
rise1 b n = (steps_of (mode_of b)).ld1 * active_before b n

abbrev pub rise2 : Block → ℕ → ℕ
rise2 b n = (steps_of (mode_of b)).ld2 * active_before b n

-- by how much LD2 goes up in a scanline, its end included
abbrev pub line_rise2 : Block → ℕ
line_rise2 b = rise2 b 46 + (steps_of (mode_of b)).line

-- the scan after n scanlines of a mode line, from the scan as the first of them begins; without VRES each of them restarts LD1
unfoldable pub skipped : Scan → ℕ → Scan
skipped c n = record {
  pending = c.pending;
  block = c.block;
  number = c.number;
  at = advanced (cond (vres c.block) n 1 * rise1 c.block 46) (n * line_rise2 c.block) c.at;
  left = c.left - n;
}
