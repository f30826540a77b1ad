-- A frame is its scanlines in order: its parts, how long its buffers are, and where each line's dots and record stand.
use mathlib.Core.Path.{◌≡◌, refl, sym, ap, ◌∙◌, fun_ext}
use mathlib.Core.List.{List, ◌++◌}
use Prim.Native.Nat.{ℕ, zero, suc, ◌+◌, ◌*◌, ◌<◌}
use native.Mathlib.Omega.{arith}
use lib.ListN.{length, get_or, drop}
use lib.Seq.{get_or-drop}
use Rattle.nick.specs.Sizes.{record_bytes}
use Rattle.nick.specs.Scanline.{line_dots, scan_after}
use Rattle.nick.specs.Record.{line_record, state_after}
use Rattle.nick.specs.Painting.{external_at, frame_dots, frame_records}
use Rattle.nick.specs.declared.State.{State}
use Rattle.lists.proofs.Rows.{rows, rows_add, rows_same, length_rows, get_or_rows}
use Rattle.laws.proofs.StatesAfter.{state_add, registers_kept, scan_of_state}
use Rattle.laws.proofs.LineDots.{length_line}

-- the dots of line y of a frame from s, and its record
abbrev frame_line : List ℕ → List ℕ → State → ℕ → List ℕ
frame_line ram external s y = line_dots s.registers ram (state_after ram y s).scan (external_at external y)

abbrev frame_record : List ℕ → State → ℕ → List ℕ
frame_record ram s y = line_record ram (state_after ram y s)

dots_rows :
    (ram external : List ℕ) (n : ℕ) (s : State) → frame_dots ram external n s ≡ rows (frame_line ram external s) n
dots_rows ram external zero s = refl
dots_rows ram external (suc n) s = rw (dots_rows ram external n s)

records_rows : (ram : List ℕ) (n : ℕ) (s : State) → frame_records ram n s ≡ rows (frame_record ram s) n
records_rows ram zero s = refl
records_rows ram (suc n) s = rw (records_rows ram n s)

-- the external bytes of line n + y are those of line y once those of n lines are left out
pub external_later :
    (external : List ℕ) (n y : ℕ) → external_at external (n + y) ≡ external_at (drop (736 * n) external) y
external_later external n y =
    fun_ext (λ x.
    let e : 736 * (n + y) + x ≡ 736 * n + (736 * y + x) = omega arith in
    rw e (sym (get_or-drop (736 * n) external (736 * y + x) 0)))

-- A frame of n + m lines is a frame of n, and then a frame of m from the state that the first leaves. The external bytes of
-- the later lines are those left once the first 736 times n are dropped. For the states this is `state_add`.
module _ (ram external : List ℕ) (n : ℕ) (s : State) where
  abbrev later_line : ℕ → List ℕ
  later_line = frame_line ram (drop (736 * n) external) (state_after ram n s)

  line_later : (y : ℕ) → frame_line ram external s (n + y) ≡ later_line y
  line_later y = rw (state_add ram n y s, registers_kept ram n s, external_later external n y)

  pub dots_add :
      (m : ℕ)
      → frame_dots ram external (n + m) s
      ≡ frame_dots ram external n s ++ frame_dots ram (drop (736 * n) external) m (state_after ram n s)
  dots_add m =
      rw (
        dots_rows ram external (n + m) s,
        dots_rows ram external n s,
        dots_rows ram (drop (736 * n) external) m (state_after ram n s),
      )
      (rows_add (frame_line ram external s) n m
      ∙ ap (λ (l : List ℕ). rows (frame_line ram external s) n ++ l)
      (rows_same (λ y. frame_line ram external s (n + y)) later_line line_later m))

module _ (ram : List ℕ) (n : ℕ) (s : State) where
  abbrev later_record : ℕ → List ℕ
  later_record = frame_record ram (state_after ram n s)

  record_later : (y : ℕ) → frame_record ram s (n + y) ≡ later_record y
  record_later y = rw (state_add ram n y s)

  pub records_add : (m : ℕ) → frame_records ram (n + m) s ≡ frame_records ram n s ++ frame_records ram m (state_after ram n s)
  records_add m =
      rw (records_rows ram (n + m) s, records_rows ram n s, records_rows ram m (state_after ram n s))
      (rows_add (frame_record ram s) n m
      ∙ ap (λ (l : List ℕ). rows (frame_record ram s) n ++ l)
      (rows_same (λ y. frame_record ram s (n + y)) later_record record_later m))

-- "Records grow from 4 to 7 bytes" (document 02, item 7)
pub length_record : (ram : List ℕ) (s : State) → length (line_record ram s) ≡ record_bytes
unfolding line_record
length_record ram s = refl

module _ (ram : List ℕ) (s : State) where
  whole : (y : ℕ) → length (frame_record ram s y) ≡ record_bytes
  whole y = length_record ram (state_after ram y s)

  pub length_records : (n : ℕ) → length (frame_records ram n s) ≡ record_bytes * n
  length_records n = rw (records_rows ram n s) (length_rows (frame_record ram s) record_bytes whole n)

  -- byte i of the record of line y
  pub record_byte :
      (n y i : ℕ) → y < n → i < record_bytes
      → get_or (frame_records ram n s) (record_bytes * y + i) 0 ≡ get_or (line_record ram (state_after ram y s)) i 0
  record_byte n y i h l = rw (records_rows ram n s) (get_or_rows (frame_record ram s) record_bytes whole n y i 0 h l)

module _ (ram external : List ℕ) (s : State) where
  wide : (y : ℕ) → length (frame_line ram external s y) ≡ 736
  wide y = length_line s.registers ram (state_after ram y s).scan (external_at external y)

  pub length_dots : (n : ℕ) → length (frame_dots ram external n s) ≡ 736 * n
  length_dots n = rw (dots_rows ram external n s) (length_rows (frame_line ram external s) 736 wide n)

  -- "Line y paints the 736 dots that start at dot 736 times y."
  pub frame_dot :
      (n y x : ℕ) → y < n → x < 736
      → get_or (frame_dots ram external n s) (736 * y + x) 0
      ≡ get_or (line_dots s.registers ram (scan_after s.registers ram y s.scan) (external_at external y)) x 0
  frame_dot n y x h l =
      rw (dots_rows ram external n s, ← scan_of_state ram y s)
      (get_or_rows (frame_line ram external s) 736 wide n y x 0 h l)
