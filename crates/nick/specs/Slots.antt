-- Document 01, "One scanline", third paragraph on: active slots, what each video mode fetches, how the pointers move.
use Rattle.std.specs.Prelude.{ℕ, ◌+◌, ◌-◌, ◌*◌, ◌/◌, ◌%◌, ◌^◌, min, max, Bool, true, false, ◌&&◌, List, [], ◌∷◌, leb, ltb, get_or}
use Rattle.nick.specs.Numbers.{up, byte_at}
use Rattle.nick.specs.declared.Pointers.{Pointers}
use Rattle.nick.specs.declared.Block.{Block}

-- "Active slots run from the larger of LM mod 64 and 8, up to but not including the smaller of RM mod 64 and 54"
abbrev pub left_margin : Block → ℕ
left_margin b = max (b.lm % 64) 8

abbrev pub right_margin : Block → ℕ
right_margin b = min (b.rm % 64) 54

abbrev pub is_active : Block → ℕ → Bool
is_active b slot = leb (left_margin b) slot && ltb slot (right_margin b)

-- how many they are; "if that is empty, there are none"
abbrev pub active_slots : Block → ℕ
active_slots b = right_margin b - left_margin b

-- the video modes; a character mode has the width of its codes: CH256 8 bits, CH128 7, CH64 6
pub data Mode : Type 0 where
  VSYNC : Mode
  PIXEL : Mode
  ATTR : Mode
  CH : ℕ → Mode
  UNUSED : Mode
  LPIXEL : Mode

-- "MB: .. bits 3 to 1 video mode"
abbrev pub mode_number : Block → ℕ
mode_number b = b.mb / 2 % 8

-- "The video mode number decides what a slot fetches": 0 VSYNC, 1 PIXEL, 2 ATTR, 3, 4, 5 CH256, CH128, CH64, 6 unused, 7 LPIXEL
unfoldable pub mode_numbered : ℕ → Mode
mode_numbered n = get_or (VSYNC ∷ PIXEL ∷ ATTR ∷ CH 8 ∷ CH 7 ∷ CH 6 ∷ UNUSED ∷ LPIXEL ∷ []) n VSYNC

abbrev pub mode_of : Block → Mode
mode_of b = mode_numbered (mode_number b)

-- modes in which an active slot fetches
abbrev pub mode_fetches : Mode → Bool
mode_fetches VSYNC = false
mode_fetches PIXEL = true
mode_fetches ATTR = true
mode_fetches (CH width) = true
mode_fetches UNUSED = false
mode_fetches LPIXEL = true

-- "(LD2 mod 256) times 256 plus code, (LD2 mod 512) times 128 plus code mod 128, or (LD2 mod 1,024) times 64 plus code mod 64"
unfoldable pub font_address : ℕ → ℕ → ℕ → ℕ
font_address width ld2 code = ld2 % 2 ^ (16 - width) * 2 ^ width + code % 2 ^ width

-- the addresses that an active slot fetches, in order
abbrev pub slot_fetches : Mode → List ℕ → Pointers → List ℕ
slot_fetches VSYNC ram p = []
slot_fetches PIXEL ram p = p.ld1 ∷ up 1 p.ld1 ∷ []
slot_fetches ATTR ram p = p.ld1 ∷ p.ld2 ∷ []
slot_fetches (CH width) ram p = p.ld1 ∷ font_address width p.ld2 (byte_at ram p.ld1) ∷ []
slot_fetches UNUSED ram p = []
slot_fetches LPIXEL ram p = p.ld1 ∷ []

-- the pointers after an active slot
abbrev pub slot_pointers : Mode → Pointers → Pointers
slot_pointers VSYNC p = p
slot_pointers PIXEL p = record { ld1 = up 2 p.ld1; ld2 = p.ld2 }
slot_pointers ATTR p = record { ld1 = up 1 p.ld1; ld2 = up 1 p.ld2 }
slot_pointers (CH width) p = record { ld1 = up 1 p.ld1; ld2 = p.ld2 }
slot_pointers UNUSED p = p
slot_pointers LPIXEL p = record { ld1 = up 1 p.ld1; ld2 = p.ld2 }

-- "LD2 goes up by 1 after each scanline, active slots or not", in the character modes
abbrev pub line_pointers : Mode → Pointers → Pointers
line_pointers VSYNC p = p
line_pointers PIXEL p = p
line_pointers ATTR p = p
line_pointers (CH width) p = record { ld1 = p.ld1; ld2 = up 1 p.ld2 }
line_pointers UNUSED p = p
line_pointers LPIXEL p = p

-- the fetched bytes that dot j of an active slot comes from: "PIXEL and LPIXEL, the one byte that holds the dot; ATTR,
-- attribute then display byte; character modes, code then font byte; .. VSYNC and mode 6, none"
abbrev pub dot_addresses : Mode → List ℕ → Pointers → ℕ → List ℕ
dot_addresses VSYNC ram p j = []
dot_addresses PIXEL ram p j = get_or (slot_fetches PIXEL ram p) (j / 8) 0 ∷ []
dot_addresses ATTR ram p j = slot_fetches ATTR ram p
dot_addresses (CH width) ram p j = slot_fetches (CH width) ram p
dot_addresses UNUSED ram p j = []
dot_addresses LPIXEL ram p j = slot_fetches LPIXEL ram p
