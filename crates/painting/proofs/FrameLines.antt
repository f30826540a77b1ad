-- Laws on the lines of a frame: one line more, all lines, and what a painting leaves by its refusal.
use mathlib.Core.Path.{◌≡◌, refl, sym, ◌∙◌}
use mathlib.Core.Bool.{Bool}
use mathlib.Core.List.{List, ◌++◌}
use Prim.Native.Nat.{ℕ, suc, ◌+◌, ◌*◌, ◌≤◌}
use native.Mathlib.Numerals.{add-one}
use native.Mathlib.Omega.{arith}
use lib.ListN.{length, take, drop}
use Rattle.lists.proofs.Laws.{lent}
use Rattle.nick.specs.Sizes.{record_bytes}
use Rattle.nick.specs.Scanline.{line_dots}
use Rattle.nick.specs.Record.{line_record, next_state, state_after}
use Rattle.nick.specs.Refusals.{Formed, Accepted, bad_height, lines_refusal, painting_refusal}
use Rattle.nick.proofs.Refusals.{painting_lines, accepted_lines, height_most}
use Rattle.nick.specs.Painting.{external_at, frame_dots, frame_records, painted, refused_painting, paint}
use Rattle.nick.specs.declared.State.{State}
use Rattle.laws.proofs.StatesAfter.{registers_kept}
use Rattle.laws.proofs.Frames.{length_dots, length_records}
use Rattle.laws.proofs.Paintings.{accepted_is, refused_is}

-- what a loop over the lines keeps: after y of h lines from s, these are painted, and the rest of both buffers is as it was
pub record Passed (s : State) (ram external : List ℕ) (h : ℕ) (dots₀ records₀ : List ℕ) (y : ℕ) (dots₁ records₁ : List ℕ) (t : State) : Type 0 where
  pub most : y ≤ h
  pub places : length dots₁ ≡ length dots₀
  pub bytes : length records₁ ≡ length records₀
  pub state : t ≡ state_after ram y s
  pub dots : dots₁ ≡ frame_dots ram external y s ++ drop (736 * y) dots₀
  pub records : records₁ ≡ frame_records ram y s ++ drop (record_bytes * y) records₀
  pub formed : Formed t.scan

-- one line more: its dots and its record, each in its part of the buffer, and the state after it
module _ (s t : State) (ram external : List ℕ) (y : ℕ) (at : t ≡ state_after ram y s) where
  pub dots_more : (dots₀ dots₁ : List ℕ) → dots₁ ≡ frame_dots ram external y s ++ drop (736 * y) dots₀
      → take (736 * y) dots₁ ++ (line_dots t.registers ram t.scan (external_at external y) ++ drop 736 (drop (736 * y) dots₁))
      ≡ frame_dots ram external (y + 1) s ++ drop (736 * (y + 1)) dots₀
  dots_more dots₀ dots₁ painted =
      let next : 736 * suc y ≡ 736 * y + 736 = omega arith in
      rw (painted, at, registers_kept ram y s, add-one y, next)
      (lent (frame_dots ram external y s) dots₀ (line_dots s.registers ram (state_after ram y s).scan (external_at external y)) (736 * y) 736
      (length_dots ram external s y))

  pub records_more : (records₀ records₁ : List ℕ) → records₁ ≡ frame_records ram y s ++ drop (record_bytes * y) records₀
      → take (record_bytes * y) records₁ ++ (line_record ram t ++ drop record_bytes (drop (record_bytes * y) records₁))
      ≡ frame_records ram (y + 1) s ++ drop (record_bytes * (y + 1)) records₀
  records_more records₀ records₁ painted =
      let next : record_bytes * suc y ≡ record_bytes * y + record_bytes = omega arith in
      rw (painted, at, add-one y, next)
      (lent (frame_records ram y s) records₀ (line_record ram (state_after ram y s)) (record_bytes * y) record_bytes (length_records ram s y))

  pub state_more : next_state ram t ≡ state_after ram (y + 1) s
  state_more = rw (at, add-one y) refl

module _ (s : State) (ram : List ℕ) (h : ℕ) (dots records external : List ℕ) (five : Bool) (height : five ≡ bad_height h) where
  -- a refusal keeps the state and the dots, and stamps the records
  pub refused_paint : (lines_refusal five s ram h dots records external ≡ 0 → ⊥)
      → paint s ram h dots records external ≡ refused_painting (lines_refusal five s ram h dots records external) s dots records
  refused_paint some =
      let table : lines_refusal five s ram h dots records external ≡ painting_refusal s ram h dots records external = rw height (sym (painting_lines s ram h dots records external)) in
      rw table (refused_is s ram h dots records external (λ z. some (table ∙ z)))

  -- else the lines are painted
  pub accepted_paint : 0 ≡ lines_refusal five s ram h dots records external → paint s ram h dots records external ≡ painted s ram h external
  accepted_paint given =
      accepted_is s ram h dots records external (rw (painting_lines s ram h dots records external, ← height) (sym given))

  pub accepted_fits : 0 ≡ lines_refusal five s ram h dots records external → Accepted s ram h dots records
  accepted_fits given = accepted_lines five s ram h dots records external (λ e. height_most h (sym height ∙ e)) (sym given)
