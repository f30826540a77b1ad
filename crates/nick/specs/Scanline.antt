-- Document 01, "One scanline": the slots in order, the dots, the fetches, and the step to the next scanline.
use Rattle.std.specs.Prelude.{ℕ, zero, suc, ◌+◌, ◌-◌, ◌*◌, Bool, cond, List, [], ◌++◌, map}
use Rattle.lists.specs.Tab.{tab}
use Rattle.nick.specs.Numbers.{byte_at}
use Rattle.nick.specs.Blocks.{loads, loaded_number, block_addresses, begun}
use Rattle.nick.specs.Slots.{is_active, mode_of, slot_fetches, slot_pointers, line_pointers, dot_addresses}
use Rattle.nick.specs.Colour.{Dot, dot_in, colours_of}
use Rattle.nick.specs.External.{dot_colour}
use Rattle.nick.specs.declared.Registers.{Registers}
use Rattle.nick.specs.declared.Pointers.{Pointers}
use Rattle.nick.specs.declared.Block.{Block}
use Rattle.nick.specs.declared.Scan.{Scan}

-- "Slots are 0 to 56; 0 to 7 load, 8 to 53 hold the dots in order": dot slot n is slot 8 + n
abbrev pub active_at : Block → ℕ → Bool
active_at b n = is_active b (8 + n)

-- the pointers after a slot, active or not
abbrev pub past_slot : Bool → Block → Pointers → Pointers
past_slot active b p = cond active (slot_pointers (mode_of b) p) p

-- the pointers after the first n dot slots
abbrev pub pointers_after : Block → ℕ → Pointers → Pointers
pointers_after b zero p = p
pointers_after b (suc n) p = past_slot (active_at b n) b (pointers_after b n p)

-- the addresses that a slot fetches, active or not
abbrev pub slot_addresses : Bool → List ℕ → Block → Pointers → List ℕ
slot_addresses active ram b p = cond active (slot_fetches (mode_of b) ram p) []

-- the addresses that the first n dot slots fetch, in order
abbrev pub slots_fetched : List ℕ → Block → ℕ → Pointers → List ℕ
slots_fetched ram b zero p = []
slots_fetched ram b (suc n) p = slots_fetched ram b n p ++ slot_addresses (active_at b n) ram b (pointers_after b n p)

-- what dot j of a slot shows: it comes from the bytes at its addresses
abbrev pub dot_at : Bool → List ℕ → Block → Pointers → ℕ → Dot
dot_at active ram b p j =
    dot_in (mode_of b) active b (colours_of b) (map (byte_at ram) (dot_addresses (mode_of b) ram p j)) j

-- the sixteen dots of dot slot n; ext gives each dot of the scanline its external byte
unfoldable pub slot_dots : Registers → List ℕ → Block → ℕ → Pointers → (ℕ → ℕ) → List ℕ
slot_dots g ram b n p ext = tab (λ j. dot_colour g b (dot_at (active_at b n) ram b p j) (ext (16 * n + j))) 16

-- the dots of the first n dot slots
abbrev pub slots_dots : Registers → List ℕ → Block → ℕ → Pointers → (ℕ → ℕ) → List ℕ
slots_dots g ram b zero p ext = []
slots_dots g ram b (suc n) p ext = slots_dots g ram b n p ext ++ slot_dots g ram b n (pointers_after b n p) ext

-- the 736 dots of a scanline that begins as c says ("46 slots of 16")
unfoldable pub begun_dots : Registers → List ℕ → Scan → (ℕ → ℕ) → List ℕ
begun_dots g ram c ext = slots_dots g ram c.block 46 c.at ext

-- the 736 dots of the next scanline
unfoldable pub line_dots : Registers → List ℕ → Scan → (ℕ → ℕ) → List ℕ
line_dots g ram c ext = begun_dots g ram (begun g ram c) ext

-- the addresses that the next scanline fetches, a load's sixteen first
unfoldable pub begun_fetches : List ℕ → Scan → List ℕ
begun_fetches ram c = slots_fetched ram c.block 46 c.at

unfoldable pub line_fetches : Registers → List ℕ → Scan → List ℕ
line_fetches g ram c = cond (loads c) (block_addresses (loaded_number g c)) [] ++ begun_fetches ram (begun g ram c)

-- a scanline's end: LD2 of a character mode goes up; "Last, scanlines left falls by 1."
unfoldable pub ended : Scan → Scan
ended c = record {
  pending = c.pending;
  block = c.block;
  number = c.number;
  at = line_pointers (mode_of c.block) (pointers_after c.block 46 c.at);
  left = c.left - 1;
}

-- one scanline, as a step of the scan
unfoldable pub next_scan : Registers → List ℕ → Scan → Scan
next_scan g ram c = ended (begun g ram c)

-- the scan after n scanlines
abbrev pub scan_after : Registers → List ℕ → ℕ → Scan → Scan
scan_after g ram zero c = c
scan_after g ram (suc n) c = next_scan g ram (scan_after g ram n c)
