-- Document 01, "The line record", last paragraph: sync.
use Rattle.std.specs.Prelude.{ℕ, zero, suc, ◌+◌, ◌%◌, Bool, true, false, cond, eqb}
use Rattle.lists.specs.Number.{number}
use Rattle.nick.specs.Slots.{Mode, VSYNC, PIXEL, ATTR, CH, UNUSED, LPIXEL, mode_of}
use Rattle.nick.specs.declared.Block.{Block}

-- "In VSYNC, at slot LM mod 64 it goes on, then at slot RM mod 64 it goes off (off wins)"
abbrev pub sync_at : Block → ℕ → Bool → Bool
sync_at b slot on = cond (eqb slot (b.rm % 64)) false (cond (eqb slot (b.lm % 64)) true on)

-- the level after the first n slots
abbrev pub sync_after : Block → ℕ → Bool → Bool
sync_after b zero on = on
sync_after b (suc n) on = sync_at b n (sync_after b n on)

-- "then the slot is counted": how many of the first n slots are at sync level
abbrev pub sync_count : Block → ℕ → Bool → ℕ
sync_count b zero on = 0
sync_count b (suc n) on = sync_count b n on + number (sync_after b (suc n) on)

-- "off throughout any mode but VSYNC"
abbrev pub syncs : Mode → Bool
syncs VSYNC = true
syncs PIXEL = false
syncs ATTR = false
syncs (CH width) = false
syncs UNUSED = false
syncs LPIXEL = false

-- "Byte 1: slots of 57 at sync level."
unfoldable pub line_sync_count : Block → Bool → ℕ
line_sync_count b on = cond (syncs (mode_of b)) (sync_count b 57 on) 0

-- "The level carries over to the next scanline."
unfoldable pub line_sync : Block → Bool → Bool
line_sync b on = cond (syncs (mode_of b)) (sync_after b 57 on) false
