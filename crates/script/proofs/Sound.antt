-- States from which every line can be painted: register writes of bytes, and scanlines, leave them so.
use mathlib.Core.Path.{◌≡◌, refl}
use mathlib.Core.Bool.{Bool, true, false, not, cond}
use mathlib.Core.List.{List, [], ◌∷◌, ◌++◌}
use Prim.Native.Nat.{ℕ, suc, ◌<◌}
use lib.Dec.{eqb, ltb}
use borrow.Author.Tests.{lt-ltb, ltb-true, not-false}
use Rattle.lists.proofs.Tests.{or_first, or_rest, cond_below}
use Rattle.nick.specs.Numbers.{is_set, Bytes}
use Rattle.nick.specs.Registers.{write_refusal, written_registers, written_scan, written}
use Rattle.nick.specs.Record.{next_state}
use Rattle.nick.specs.Refusals.{Formed}
use Rattle.nick.specs.declared.State.{State}
use Rattle.nick.proofs.WellFormed.{next_state_formed}
use Rattle.laws.proofs.StatesAfter.{registers_kept}
use Rattle.script.specs.Steps.{Step, writes, paints, enables, resets, unknown, step_of, steps_of, after}
use Rattle.script.specs.Runs.{bench_after}
use Rattle.script.specs.Stretches.{any_of}
use Rattle.script.specs.declared.Bench.{Bench}
use Rattle.script.proofs.StepLaws.{written_formed}

-- a state from which every line can be painted: well-formed, with a byte in LPL
pub record Sound (s : State) : Type 0 where
  pub low : s.registers.lpl < 256
  pub formed : Formed s.scan

-- a step writes what is no byte
abbrev pub is_big : Step → Bool
is_big (writes port value) = not (ltb value 256)
is_big paints = false
is_big (enables on) = false
is_big resets = false
is_big unknown = false

-- no step of a script of bytes does
small_step : (kind port value : ℕ) → value < 256 → is_big (step_of kind port value) ≡ false
small_step kind port value h = go (eqb kind 0) (eqb kind 1) (eqb kind 2) (eqb kind 3)
  where
    go :
        (zero one two three : Bool)
        → is_big (cond zero (writes port value) (cond one paints (cond two (enables (is_set 0 value)) (cond three resets unknown)))) ≡ false
    go true one two three = rw (lt-ltb value 256 h)
    go false true two three = refl
    go false false true three = refl
    go false false false true = refl
    go false false false false = refl

pub small_steps : (script : List ℕ) → Bytes script → any_of is_big (steps_of script) ≡ false
small_steps [] h = refl
small_steps (kind ∷ []) h = refl
small_steps (kind ∷ port ∷ []) h = refl
small_steps (kind ∷ port ∷ value ∷ more) h =
    rw (small_step kind port value (h 2), small_steps more (λ i. h (suc (suc (suc i)))))

pub small_first : (first second : List Step) → any_of is_big (first ++ second) ≡ false → any_of is_big first ≡ false
small_first [] second e = refl
small_first (step ∷ more) second e =
    rw (or_first (is_big step) (any_of is_big (more ++ second)) e, small_first more second (or_rest (is_big step) (any_of is_big (more ++ second)) e))

-- a register write of a byte, and a scanline, leave the state sound
written_sound : (s : State) (port value : ℕ) → value < 256 → Sound s → Sound (written s port value)
unfolding written written_registers
written_sound s port value h f = record { low = go (eqb (write_refusal port) 0); formed = written_formed s port value f.formed }
  where
    go :
        (t : Bool)
        → (cond t (record { registers = written_registers s.registers port value; scan = written_scan s.scan port value; virq = s.virq; sync = s.sync }) s).registers.lpl
        < 256
    go true = cond_below (eqb port 130) value s.registers.lpl 256 h f.low
    go false = f.low

line_sound : (ram : List ℕ) (s : State) → Sound s → Sound (next_state ram s)
line_sound ram s f = record {
  low = rw (registers_kept ram 1 s) f.low;
  formed = next_state_formed ram s f.low f.formed;
}

pub steps_sound :
    (ram : List ℕ) (steps : List Step) (b : Bench) → any_of is_big steps ≡ false → Sound b.state
    → Sound (bench_after ram steps b).state
unfolding after
steps_sound ram [] b e f = f
steps_sound ram (writes port value ∷ more) b e f =
    let small = ltb-true value 256 (not-false (ltb value 256) (or_first (not (ltb value 256)) (any_of is_big more) e)) in
    steps_sound ram more (after ram (writes port value) b) (or_rest (not (ltb value 256)) (any_of is_big more) e)
    (written_sound b.state port value small f)
steps_sound ram (paints ∷ more) b e f = steps_sound ram more (after ram paints b) e (line_sound ram b.state f)
steps_sound ram (enables on ∷ more) b e f = steps_sound ram more (after ram (enables on) b) e f
steps_sound ram (resets ∷ more) b e f = steps_sound ram more (after ram resets b) e f
steps_sound ram (unknown ∷ more) b e f = steps_sound ram more (after ram unknown b) e f
