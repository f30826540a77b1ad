-- Document 01, "Fixed examples": P1 to P12 as one table, each row with what the rules give and what the paper says.
use Rattle.std.specs.Prelude.{ℕ, ◌*◌, ◌≡◌, refl, true, false, List, [], ◌∷◌, ◌++◌, map, length, get_or, replicate}
use Rattle.lists.specs.Number.{number}
use Rattle.lists.specs.Tab.{tab}
use Rattle.nick.specs.Registers.{written_registers, written_scan, written, fresh_state, zero_block, zero_pointers}
use Rattle.nick.specs.Blocks.{loaded, loaded_number, decoded, block_at, block_addresses, continued, begun}
use Rattle.nick.specs.Slots.{mode_numbered, font_address, slot_fetches, active_slots}
use Rattle.nick.specs.Colour.{two, four, sixteen, colours_numbered, four_index, sixteen_index, graphics_added, graphics_byte, graphics_pixel, palette_colour}
use Rattle.nick.specs.External.{external_wins, priority_gives, mixed_colour}
use Rattle.nick.specs.Scanline.{slot_dots, begun_dots, begun_fetches, line_fetches, ended, next_scan}
use Rattle.nick.specs.Sync.{line_sync, line_sync_count}
use Rattle.nick.specs.Record.{flags, line_record, next_state, state_after}
use Rattle.nick.specs.Direct.{loaded_on_the_way}
use Rattle.nick.specs.declared.Registers.{Registers}
use Rattle.nick.specs.declared.Block.{Block}
use Rattle.nick.specs.declared.Scan.{Scan}
use Rattle.nick.specs.declared.State.{State}
use Rattle.nick.specs.declared.Pixel.{Pixel}
use Rattle.nick.specs.declared.Pixel.TheVariants.{Palette, Direct}

-- registers with FIXBIAS alone
abbrev pub fixbias : ℕ → Registers
fixbias n = record { fixbias = n; border = 0; lpl = 0; lph = 192 }

-- a block with MB, LM and RM alone
abbrev pub block : ℕ → ℕ → ℕ → Block
block mb lm rm = record { sc = 0; mb = mb; lm = lm; rm = rm; start = zero_pointers; col = replicate 8 0 }

-- a palette number; 256-colour pixels have none, and stand out as 999
abbrev pub index : Pixel → ℕ
index (Palette n) = n
index (Direct c) = 999

-- scanlines left after the load of a block with this SC
abbrev pub scanlines : ℕ → ℕ
scanlines sc = (loaded (fixbias 0) 0 (decoded (sc ∷ replicate 15 0))).left

-- the addresses that a character mode fetches, by the mode's number: its code, at address 0, and the display byte
abbrev pub character_fetches : ℕ → ℕ → ℕ → List ℕ
character_fetches mode ld2 code = slot_fetches (mode_numbered mode) (code ∷ []) (record { ld1 = 0; ld2 = ld2 })

-- a scanline of 256-colour LPIXEL between these margins
abbrev pub between : ℕ → ℕ → Scan
between lm rm = record { pending = false; block = block 110 lm rm; number = 0; at = zero_pointers; left = 1 }

-- how many slots fetch there, slot by slot, beside the number of active slots
abbrev pub slots : ℕ → ℕ → List ℕ
slots lm rm = active_slots (between lm rm).block ∷ length (begun_fetches [] (between lm rm)) ∷ []

-- its dots, where BORDER is 1 and every byte of RAM 0
abbrev pub dots : ℕ → ℕ → List ℕ
dots lm rm =
    begun_dots (record { fixbias = 0; border = 1; lpl = 0; lph = 192 }) [] (between lm rm) (λ dot. 0)

-- LPL 255 and LPH 255 written to the fresh state
abbrev pub last_base : State
last_base = written (written fresh_state 130 255) 131 255

-- the block at 65,520 has one scanline and no RELOAD
abbrev pub last_block : List ℕ
last_block = replicate 65520 0 ++ (255 ∷ replicate 15 0)

-- the addresses of the blocks that the next n scanlines load
abbrev pub loaded_addresses : State → List ℕ → ℕ → List ℕ
loaded_addresses s ram n = map (λ number. 16 * number) (loaded_on_the_way s.registers ram n s.scan)

-- the guide's vertical sequence at base 0
abbrev pub sequence : List ℕ
sequence =
    (253 ∷ 0 ∷ 63 ∷ 0 ∷ replicate 12 0)
    ++ (254 ∷ 0 ∷ 6 ∷ 63 ∷ replicate 12 0)
    ++ (255 ∷ 0 ∷ 63 ∷ 32 ∷ replicate 12 0)
    ++ (237 ∷ 3 ∷ 6 ∷ 63 ∷ replicate 12 0)
    ++ replicate 65472 0

-- byte 1 of the record of line y, painted from the fresh state
abbrev pub sync_slots : ℕ → ℕ
sync_slots y = get_or (line_record sequence (state_after sequence y fresh_state)) 1 999

-- whether external input wins over internal palette 3
abbrev pub wins : ℕ → ℕ → ℕ
wins priority e = number (external_wins (fixbias (32 * priority)) (Palette 3) e)

pub record Example : Type 0 where
  pub got : List ℕ
  pub want : List ℕ

abbrev pub examples : List Example
examples =
    -- P1 SC 0 gives 256 scanlines, 1 gives 255, 255 gives 1.
    record { got = scanlines 0 ∷ scanlines 1 ∷ scanlines 255 ∷ []; want = 256 ∷ 255 ∷ 1 ∷ [] }
    -- P2 FIXBIAS 21: palette 8 is 168, 15 is 175.
    ∷ record { got = palette_colour (fixbias 21) zero_block 8 ∷ palette_colour (fixbias 21) zero_block 15 ∷ []; want = 168 ∷ 175 ∷ [] }
    -- P3 two colours, 165: 1,0,1,0,0,1,0,1.
    ∷ record {
      got = tab (λ k. index (graphics_pixel two zero_block 165 k)) 8;
      want = 1 ∷ 0 ∷ 1 ∷ 0 ∷ 0 ∷ 1 ∷ 0 ∷ 1 ∷ [];
    }
    -- P4 MSBALT, 192: 2,3,2,2,2,2,2,2. Both ALT bits, 129: all 6.
    ∷ record {
      got = tab (λ k. index (graphics_pixel two (block 0 128 0) 192 k)) 8;
      want = 2 ∷ 3 ∷ 2 ∷ 2 ∷ 2 ∷ 2 ∷ 2 ∷ 2 ∷ [];
    }
    ∷ record { got = tab (λ k. index (graphics_pixel two (block 0 192 0) 129 k)) 8; want = replicate 8 6 }
    -- P5, by document 02, item 2: "Byte 129 in four colours gives 1, 0, 0, 2"
    ∷ record { got = tab (λ k. index (graphics_pixel four zero_block 129 k)) 4; want = 1 ∷ 0 ∷ 0 ∷ 2 ∷ [] }
    -- P6, by the same: "byte 160 in sixteen gives 5, 0"
    ∷ record { got = tab (λ k. index (graphics_pixel sixteen zero_block 160 k)) 2; want = 5 ∷ 0 ∷ [] }
    -- P7 CH128, LD2 2, code 130: address 258. CH256, LD2 258, code 130: 642. CH64, LD2 1,023, code 255: 65,535.
    ∷ record {
      got = character_fetches 4 2 130 ++ character_fetches 3 258 130 ++ character_fetches 5 1023 255;
      want = 0 ∷ 258 ∷ 0 ∷ 642 ∷ 0 ∷ 65535 ∷ [];
    }
    -- P8 PIXEL at LD1 65,535 fetches 65,535 and 0.
    ∷ record { got = slot_fetches (mode_numbered 1) [] (record { ld1 = 65535; ld2 = 0 }); want = 65535 ∷ 0 ∷ [] }
    -- P9 margins 10, 52: 42 slots, dots 32 to 703; 6, 63: 46; 20, 20: 0; 53, 54: 1; 54, 63: 0.
    ∷ record {
      got = slots 10 52 ++ slots 6 63 ++ slots 20 20 ++ slots 53 54 ++ slots 54 63;
      want = 42 ∷ 42 ∷ 46 ∷ 46 ∷ 0 ∷ 0 ∷ 1 ∷ 1 ∷ 0 ∷ 0 ∷ [];
    }
    ∷ record { got = dots 10 52; want = replicate 32 1 ++ replicate 672 0 ++ replicate 32 1 }
    -- P10 LPL 255, LPH 255: block at 65,520; next without RELOAD at 0.
    ∷ record { got = loaded_addresses last_base last_block 2; want = 65520 ∷ 0 ∷ [] }
    -- P11 sequence above: sync counts 0, 0, 0, 51, 57, 32, then 0.
    ∷ record { got = tab sync_slots 25; want = 0 ∷ 0 ∷ 0 ∷ 51 ∷ 57 ∷ 32 ∷ replicate 19 0 }
    -- "(off wins)": both margins at slot 20, and sync on before, count slots 0 to 19.
    ∷ record { got = line_sync_count (block 0 20 20) true ∷ []; want = 20 ∷ [] }
    -- P12 priority 2, internal 3: input 135 wins, 136 doesn't; priority 3: 136 wins, 132 doesn't.
    ∷ record { got = wins 2 135 ∷ wins 2 136 ∷ wins 3 136 ∷ wins 3 132 ∷ []; want = 1 ∷ 0 ∷ 1 ∷ 0 ∷ [] }
    ∷ []

-- the rules give what the paper says, in every row
pub examples_hold : map (λ (x : Example). x.got) examples ≡ map (λ (x : Example). x.want) examples
unfolding
    written_registers written_scan written loaded loaded_number decoded block_at block_addresses continued begun mode_numbered
    font_address colours_numbered four_index sixteen_index graphics_added graphics_byte palette_colour priority_gives mixed_colour
    slot_dots begun_dots begun_fetches line_fetches ended next_scan line_sync line_sync_count flags line_record next_state
examples_hold = refl
