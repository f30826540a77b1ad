-- Document 01, "The line record", with document 02, item 7, and one scanline as a step from state to state.
use Rattle.std.specs.Prelude.{ℕ, zero, suc, ◌+◌, ◌*◌, Bool, not, cond, ◌&&◌, List, [], ◌∷◌, eqb, length}
use Rattle.lists.specs.Number.{number}
use Rattle.nick.specs.Numbers.{bit, low, high}
use Rattle.nick.specs.Blocks.{loads, begun, vint}
use Rattle.nick.specs.Slots.{mode_number, mode_of, mode_fetches, active_slots}
use Rattle.nick.specs.Scanline.{line_fetches, next_scan}
use Rattle.nick.specs.Sync.{syncs, line_sync, line_sync_count}
use Rattle.nick.specs.declared.Registers.{Registers}
use Rattle.nick.specs.declared.Block.{Block}
use Rattle.nick.specs.declared.State.{State}

-- "bit 5 video mode 6"
abbrev pub is_unused : Block → Bool
is_unused b = eqb (mode_number b) 6

-- "Byte 0: bit 0 VIRQ low (VINT set); bit 1 VIRQ low now and high in the scanline before; bit 2 burst given (not VSYNC); bit 3
-- a block was loaded; bit 4 no scanlines are left after this one; bit 5 video mode 6; bits 6, 7 zero."
unfoldable pub flags : Block → Bool → Bool → Bool → ℕ
flags b wasLow load last =
    number (vint b)
    + 2 * number (vint b && not wasLow)
    + 4 * number (not (syncs (mode_of b)))
    + 8 * number load
    + 16 * number last
    + 32 * number (is_unused b)

-- "Byte 3: active slots in modes that fetch, else 0."
abbrev pub fetching_slots : Block → ℕ
fetching_slots b = cond (mode_fetches (mode_of b)) (active_slots b) 0

-- item 7: "byte 4 holds VC1 (FIXBIAS bit 7) as 0 or 1"
abbrev pub vc1 : Registers → ℕ
vc1 g = bit 7 g.fixbias

-- the record of the next scanline; "Byte 2: the number of bytes fetched from video RAM in this scanline, 16 for a load
-- included"; item 7: "bytes 5 and 6 the number of the block in force, low byte first": after the load, if there is one
unfoldable pub line_record : List ℕ → State → List ℕ
line_record ram s =
    let c = begun s.registers ram s.scan in
    flags c.block s.virq (loads s.scan) (eqb (next_scan s.registers ram s.scan).left 0)
    ∷ line_sync_count c.block s.sync
    ∷ length (line_fetches s.registers ram s.scan)
    ∷ fetching_slots c.block
    ∷ vc1 s.registers
    ∷ low c.number
    ∷ high c.number
    ∷ []

-- one scanline, as a step of the whole state
unfoldable pub next_state : List ℕ → State → State
next_state ram s =
    let b = (begun s.registers ram s.scan).block in
    record {
      registers = s.registers;
      scan = next_scan s.registers ram s.scan;
      virq = vint b;
      sync = line_sync b s.sync;
    }

-- the state after n scanlines
abbrev pub state_after : List ℕ → ℕ → State → State
state_after ram zero s = s
state_after ram (suc n) s = next_state ram (state_after ram n s)
