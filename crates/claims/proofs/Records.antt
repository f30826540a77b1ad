-- The line records of paintings: a painted record never begins with 255, and a refused painting's records are 255 throughout, so that
-- refusal 12 tells them apart; byte 2 counts at most 108 fetches, byte 4 is VC1, and bytes 5 and 6 number the block in force.
use mathlib.Core.Path.{◌≡◌, refl, sym, ap, ◌∙◌}
use mathlib.Core.Bool.{Bool, true, false, not, cond, ◌&&◌}
use mathlib.Core.List.{List, [], ◌∷◌, ◌++◌}
use Prim.Native.Nat.{ℕ, zero, suc, ◌+◌, ◌*◌, ◌≤◌, ◌<◌}
use native.Mathlib.Nat.{add-zero, add_assoc}
use native.Mathlib.Omega.{arith}
use lib.ListN.{length, length-append, get_or-replicate}
use Rattle.lists.proofs.Tests.{number_le, apply_cond}
use Rattle.nick.specs.Sizes.{record_bytes}
use Rattle.nick.specs.Numbers.{bit, byte_at, pair_at}
use Rattle.nick.specs.Registers.{written_registers, written_scan, written}
use Rattle.nick.specs.Blocks.{vint, loads, loaded_number, decoded, block_at, block_addresses, loaded, continued, begun}
use Rattle.nick.specs.Slots.{Mode, VSYNC, PIXEL, ATTR, CH, UNUSED, LPIXEL, mode_numbered, mode_of, slot_fetches}
use Rattle.nick.specs.Scanline.{active_at, pointers_after, slot_addresses, slots_fetched, begun_fetches, line_fetches, ended, next_scan}
use Rattle.nick.specs.Sync.{syncs, line_sync, line_sync_count}
use Rattle.nick.specs.Record.{is_unused, flags, line_record, next_state, state_after}
use Rattle.nick.specs.Refusals.{any_stamped}
use Rattle.nick.specs.Painting.{frame_records, painted, refused_painting, paint}
use Rattle.nick.specs.Examples.{last_base, last_block}
use Rattle.nick.specs.declared.Registers.{Registers}
use Rattle.nick.specs.declared.Pointers.{Pointers}
use Rattle.nick.specs.declared.Block.{Block}
use Rattle.nick.specs.declared.Scan.{Scan}
use Rattle.nick.specs.declared.State.{State}
use Rattle.nick.proofs.Bits.{pair}
use Rattle.nick.proofs.Refusals.{stamped_at, none_stamped}
use Rattle.laws.proofs.StatesAfter.{registers_kept}
use Rattle.laws.proofs.Frames.{record_byte}
use Rattle.laws.proofs.Paintings.{refusal_is, accepted_is, refused_is}

flags_below : (b : Block) (wasLow load last : Bool) → flags b wasLow load last < 64
unfolding flags
flags_below b wasLow load last =
    omega (
      arith,
      number_le (vint b),
      number_le (vint b && not wasLow),
      number_le (not (syncs (mode_of b))),
      number_le load,
      number_le last,
      number_le (is_unused b),
    )

pub first_below : (ram : List ℕ) (s : State) → byte_at (line_record ram s) 0 < 64
unfolding line_record
first_below ram s = flags_below _ _ _ _

-- "bits 6, 7 zero"
pub high_bits_zero :
    (ram : List ℕ) (s : State)
    → (bit 6 (byte_at (line_record ram s) 0) ≡ 0) × (bit 7 (byte_at (line_record ram s) 0) ≡ 0)
high_bits_zero ram s = zero_above (byte_at (line_record ram s) 0) (first_below ram s)
  where
    zero_above : (n : ℕ) → n < 64 → (bit 6 n ≡ 0) × (bit 7 n ≡ 0)
    zero_above n h = omega arith

-- document 02, item 7: "byte 4 holds VC1 (FIXBIAS bit 7) as 0 or 1"
pub vc1_is : (ram : List ℕ) (s : State) → byte_at (line_record ram s) 4 ≡ bit 7 s.registers.fixbias
unfolding line_record
vc1_is ram s = refl

-- "bytes 5 and 6 the number of the block in force, low byte first": that is the number in the state after the line
pub number_is : (ram : List ℕ) (s : State) → pair_at (line_record ram s) 5 ≡ (next_state ram s).scan.number
unfolding line_record next_state next_scan ended
number_is ram s = pair (begun s.registers ram s.scan).number

-- it is that of the block which the line loads, or else of the stored one
begun_number :
    (g : Registers) (ram : List ℕ) (c : Scan) → (begun g ram c).number ≡ cond (loads c) (loaded_number g c) c.number
unfolding begun loaded continued
begun_number g ram c =
    apply_cond (λ (d : Scan). d.number) (loads c) (loaded g (loaded_number g c) (block_at ram (loaded_number g c))) (continued c)

pub in_force :
    (ram : List ℕ) (s : State)
    → pair_at (line_record ram s) 5 ≡ cond (loads s.scan) (loaded_number s.registers s.scan) s.scan.number
unfolding line_record
in_force ram s = pair (begun s.registers ram s.scan).number ∙ begun_number s.registers ram s.scan

-- Computed: FIXBIAS 128, and P10's table. The first line loads block 4,095, which has one scanline, the second block 0.
pub worked :
    frame_records last_block 2 (written last_base 128 128)
    ≡ (24 ∷ 0 ∷ 16 ∷ 0 ∷ 1 ∷ 255 ∷ 15 ∷ []) ++ (8 ∷ 0 ∷ 16 ∷ 0 ∷ 1 ∷ 0 ∷ 0 ∷ [])
unfolding
    written_registers written_scan written loaded loaded_number decoded block_at block_addresses continued begun mode_numbered
    begun_fetches line_fetches ended next_scan line_sync line_sync_count flags line_record next_state
worked = refl

module _ (s : State) (ram : List ℕ) (h : ℕ) (dots records external : List ℕ) where
  -- the record of line y of a painting that is not refused
  module _ (e : (paint s ram h dots records external).refusal ≡ 0) (y : ℕ) (l : y < h) where
    accepted_byte :
        (i : ℕ) → i < record_bytes
        → byte_at (paint s ram h dots records external).records (record_bytes * y + i)
        ≡ byte_at (line_record ram (state_after ram y s)) i
    unfolding painted
    accepted_byte i b =
        rw (accepted_is s ram h dots records external (sym (refusal_is s ram h dots records external) ∙ e))
        (record_byte ram s h y i l b)

    -- a line that was painted can be told from a refusal's stamp by byte 0
    pub accepted_records : byte_at (paint s ram h dots records external).records (record_bytes * y) < 64
    accepted_records =
        rw (← add-zero (record_bytes * y), accepted_byte 0 (omega arith)) (first_below ram (state_after ram y s))

    -- its byte 4, and the number in its bytes 5 and 6
    pub accepted_vc1 :
        byte_at (paint s ram h dots records external).records (record_bytes * y + 4) ≡ bit 7 s.registers.fixbias
    accepted_vc1 =
        rw (accepted_byte 4 (omega arith), vc1_is ram (state_after ram y s), registers_kept ram y s)

    pub accepted_numbers :
        pair_at (paint s ram h dots records external).records (record_bytes * y + 5) ≡ (state_after ram (suc y) s).scan.number
    accepted_numbers =
        rw (add_assoc (record_bytes * y) 5 1, accepted_byte 5 (omega arith), accepted_byte 6 (omega arith))
        (number_is ram (state_after ram y s))

  -- "writes 255 over the whole record buffer, whatever its length"
  pub refused_records :
      ((paint s ram h dots records external).refusal ≡ 0 → ⊥)
      → (i : ℕ) → i < length records
      → byte_at (paint s ram h dots records external).records i ≡ 255
  unfolding refused_painting
  refused_records e i l =
      rw (refused_is s ram h dots records external (λ z. e (refusal_is s ram h dots records external ∙ z)))
      (get_or-replicate (length records) i 255 0 l)

  -- document 02, item 1: the records of a painted frame never meet refusal 12
  pub painted_unstamped :
      (paint s ram h dots records external).refusal ≡ 0
      → any_stamped h (paint s ram h dots records external).records ≡ false
  painted_unstamped e =
      none_stamped h (paint s ram h dots records external).records (λ y l z. absurd (omega (arith, accepted_records e y l, z)))

  -- and those that a refused painting leaves always do, at every height that they have the length for
  pub refused_stamped :
      ((paint s ram h dots records external).refusal ≡ 0 → ⊥)
      → (n : ℕ) → 0 < n → length records ≡ record_bytes * n
      → any_stamped n (paint s ram h dots records external).records ≡ true
  refused_stamped e n some size =
      stamped_at n 0 (paint s ram h dots records external).records some (refused_records e 0 (omega arith))

-- "Byte 2: the number of bytes fetched from video RAM in this scanline, 16 for a load included, at most 108."
pub fetched_is :
    (ram : List ℕ) (s : State) → byte_at (line_record ram s) 2 ≡ length (line_fetches s.registers ram s.scan)
unfolding line_record
fetched_is ram s = refl

-- at most two bytes a slot
mode_most : (m : Mode) (ram : List ℕ) (p : Pointers) → length (slot_fetches m ram p) ≤ 2
mode_most VSYNC ram p = omega arith
mode_most PIXEL ram p = omega arith
mode_most ATTR ram p = omega arith
mode_most (CH width) ram p = omega arith
mode_most UNUSED ram p = omega arith
mode_most LPIXEL ram p = omega arith

slot_most : (active : Bool) (ram : List ℕ) (b : Block) (p : Pointers) → length (slot_addresses active ram b p) ≤ 2
slot_most true ram b p = mode_most (mode_of b) ram p
slot_most false ram b p = omega arith

slots_most : (ram : List ℕ) (b : Block) (n : ℕ) (p : Pointers) → length (slots_fetched ram b n p) ≤ 2 * n
slots_most ram b zero p = omega arith
slots_most ram b (suc n) p =
    rw (length-append (slots_fetched ram b n p) (slot_addresses (active_at b n) ram b (pointers_after b n p)))
    (omega (arith, slots_most ram b n p, slot_most (active_at b n) ram b (pointers_after b n p)))

-- 46 slots, and sixteen bytes of a load
begun_slots : (n : ℕ) → n ≡ 46 → (ram : List ℕ) (c : Scan) → begun_fetches ram c ≡ slots_fetched ram c.block n c.at
unfolding begun_fetches
begun_slots n e ram c = ap (λ (m : ℕ). slots_fetched ram c.block m c.at) (sym e)

begun_most : (n : ℕ) → n ≡ 46 → (ram : List ℕ) (c : Scan) → length (begun_fetches ram c) ≤ 92
begun_most n e ram c = rw (begun_slots n e ram c) (omega (arith, slots_most ram c.block n c.at))

load_most : (t : Bool) (n : ℕ) → length (cond t (block_addresses n) []) ≤ 16
unfolding block_addresses
load_most true n = omega arith
load_most false n = omega arith

pub fetched_most : (g : Registers) (ram : List ℕ) (c : Scan) → length (line_fetches g ram c) ≤ 108
unfolding line_fetches
fetched_most g ram c =
    rw (length-append (cond (loads c) (block_addresses (loaded_number g c)) []) (begun_fetches ram (begun g ram c)))
    (omega (arith, load_most (loads c) (loaded_number g c), begun_most 46 refl ram (begun g ram c)))
