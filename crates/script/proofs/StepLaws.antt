-- Laws on single steps: which kind a step is of, when the state stays well-formed, and what a refused step keeps.
use mathlib.Core.Path.{◌≡◌, refl, sym, ap, ◌∙◌}
use mathlib.Core.Bool.{Bool, true, false, cond}
use mathlib.Core.List.{List, ◌++◌}
use Prim.Native.Nat.{ℕ, ◌+◌, ◌*◌, ◌≤◌}
use native.Mathlib.Nat.{add-zero}
use native.Mathlib.Omega.{arith}
use lib.Dec.{eqb}
use lib.ListN.{length, take, drop, length-take}
use lib.Seq.{drop-drop, get_or_at}
use borrow.Author.Tests.{eqb-true, ne_eqb}
use Rattle.lists.specs.Number.{number}
use Rattle.nick.specs.Sizes.{record_bytes}
use Rattle.nick.specs.Numbers.{is_set, byte_at}
use Rattle.nick.specs.Registers.{write_refusal, written_registers, written_scan, written}
use Rattle.nick.specs.Record.{line_record}
use Rattle.nick.specs.Refusals.{Formed}
use Rattle.nick.specs.declared.State.{State}
use Rattle.script.specs.Steps.{Step, writes, paints, enables, resets, unknown, step_of, is_paint, step_refusal, after}
use Rattle.script.specs.declared.Bench.{Bench}

-- a step paints exactly if its kind is 1
pub paints_kind : (kind port value : ℕ) → is_paint (step_of kind port value) ≡ eqb kind 1
paints_kind kind port value = go (eqb kind 0) refl
  where
    later :
        (one two three : Bool)
        → is_paint (cond one paints (cond two (enables (is_set 0 value)) (cond three resets unknown))) ≡ one
    later true two three = refl
    later false true three = refl
    later false false true = refl
    later false false false = refl

    go :
        (t : Bool)
        → eqb kind 0 ≡ t
        → is_paint (cond t (writes port value) (cond (eqb kind 1) paints (cond (eqb kind 2) (enables (is_set 0 value)) (cond (eqb kind 3) resets unknown))))
        ≡ eqb kind 1
    go true e = sym (ne_eqb kind 1 (λ q. absurd (omega (arith, eqb-true kind 0 e, q))))
    go false e = later (eqb kind 1) (eqb kind 2) (eqb kind 3)

-- a step adds the line that it paints, and no other
pub lines_after : (ram : List ℕ) (step : Step) (b : Bench) → (after ram step b).lines ≡ b.lines + number (is_paint step)
unfolding after
lines_after ram (writes port value) b = sym (add-zero b.lines)
lines_after ram paints b = refl
lines_after ram (enables on) b = sym (add-zero b.lines)
lines_after ram resets b = sym (add-zero b.lines)
lines_after ram unknown b = sym (add-zero b.lines)

-- a register write changes neither the block number nor the scanlines left
pub written_formed : (s : State) (port value : ℕ) → Formed s.scan → Formed (written s port value).scan
unfolding written written_scan
written_formed s port value f = go (eqb (write_refusal port) 0)
  where
    go :
        (t : Bool)
        → Formed (cond t (record { registers = written_registers s.registers port value; scan = written_scan s.scan port value; virq = s.virq; sync = s.sync }) s).scan
    go true = record { left = f.left; number = f.number }
    go false = f

-- the first byte of the record that a line put in its place has
record_first :
    (ram : List ℕ) (s : State) (records rest : List ℕ) (n : ℕ) → n ≤ length records
    → byte_at (take n records ++ (line_record ram s ++ rest)) n ≡ byte_at (line_record ram s) 0
unfolding line_record
record_first ram s records rest n h =
    let front : length (take n records) ≡ n = length-take n records ∙ omega arith in
    get_or_at (take n records) _ _ 0 n front

-- a refused step paints nothing and changes nothing
pub refused_quiet : (step : Step) → (step_refusal step ≡ 0 → ⊥) → is_paint step ≡ false
refused_quiet (writes port value) r = refl
refused_quiet paints r = absurd (r refl)
refused_quiet (enables on) r = refl
refused_quiet resets r = refl
refused_quiet unknown r = refl

pub refused_keeps : (ram : List ℕ) (step : Step) (b : Bench) → (step_refusal step ≡ 0 → ⊥) → after ram step b ≡ b
unfolding after written
refused_keeps ram (writes port value) b r = rw (ne_eqb (write_refusal port) 0 r)
refused_keeps ram paints b r = absurd (r refl)
refused_keeps ram (enables on) b r = absurd (r refl)
refused_keeps ram resets b r = absurd (r refl)
refused_keeps ram unknown b r = refl

-- the flags of the record that line y has put in its place
pub flags_there :
    (ram : List ℕ) (s : State) (y : ℕ) (records₀ records₁ rest : List ℕ)
    → records₁ ≡ take (record_bytes * y) records₀ ++ (line_record ram s ++ rest)
    → record_bytes * y ≤ length records₀
    → byte_at records₁ (record_bytes * y) ≡ byte_at (line_record ram s) 0
flags_there ram s y records₀ records₁ rest e h = rw e (record_first ram s records₀ rest (record_bytes * y) h)

-- what lies past line y
pub past_dots : (y : ℕ) (dots : List ℕ) → drop 736 (drop (736 * y) dots) ≡ drop (736 * (y + 1)) dots
past_dots y dots = drop-drop 736 (736 * y) dots ∙ ap (λ (k : ℕ). drop k dots) (omega arith)

pub past_record : (y : ℕ) (records : List ℕ) → drop record_bytes (drop (record_bytes * y) records) ≡ drop (record_bytes * (y + 1)) records
past_record y records = drop-drop record_bytes (record_bytes * y) records ∙ ap (λ (k : ℕ). drop k records) (omega arith)
