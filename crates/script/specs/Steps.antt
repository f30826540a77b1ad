-- Document 02, item 3: the steps of a script, when one is refused, and what one does.
use Rattle.std.specs.Prelude.{ℕ, ◌+◌, Bool, true, false, cond, ◌||◌, List, [], ◌∷◌, eqb}
use Rattle.lists.specs.Number.{number}
use Rattle.nick.specs.Numbers.{is_set, byte_at}
use Rattle.nick.specs.Registers.{write_refusal, written}
use Rattle.nick.specs.Scanline.{line_dots}
use Rattle.nick.specs.Record.{line_record, next_state}
use Rattle.nick.specs.Painting.{external_at}
use Rattle.nick.specs.declared.State.{State}
use Rattle.script.specs.declared.Bench.{Bench}

-- "A script holds steps of three bytes, kind, port, data: 0 write a port, 1 paint one scanline, 2 set the interrupt enable to bit 0
-- of the data, 3 reset the latch." A kind over 3 is unknown.
pub data Step : Type 0 where
  writes : (port value : ℕ) → Step
  paints : Step
  enables : (on : Bool) → Step
  resets : Step
  unknown : Step

abbrev pub step_of : ℕ → ℕ → ℕ → Step
step_of kind port value =
    cond (eqb kind 0) (writes port value)
    (cond (eqb kind 1) paints
    (cond (eqb kind 2) (enables (is_set 0 value))
    (cond (eqb kind 3) resets unknown)))

-- the whole steps of a script, in order
abbrev pub steps_of : List ℕ → List Step
steps_of [] = []
steps_of (kind ∷ []) = []
steps_of (kind ∷ port ∷ []) = []
steps_of (kind ∷ port ∷ value ∷ more) = step_of kind port value ∷ steps_of more

abbrev pub is_paint : Step → Bool
is_paint (writes port value) = false
is_paint paints = true
is_paint (enables on) = false
is_paint resets = false
is_paint unknown = false

-- how many scanlines the steps paint: "as many lines as there are whole steps of kind 1"
abbrev pub lines_in : List Step → ℕ
lines_in [] = 0
lines_in (step ∷ more) = number (is_paint step) + lines_in more

-- "At a step, 1 and 2 apply to kind 0, and a kind over 3 gives 19."
abbrev pub step_refusal : Step → ℕ
step_refusal (writes port value) = write_refusal port
step_refusal paints = 0
step_refusal (enables on) = 0
step_refusal resets = 0
step_refusal unknown = 19

-- "Latch and enable begin off."
abbrev pub begins : State → Bench
begins s = record { state = s; latch = false; enable = false; lines = 0 }

-- "record bit 1": VIRQ's edge, in the record of the scanline that is painted from s
abbrev pub edge : List ℕ → State → Bool
edge ram s = is_set 1 (byte_at (line_record ram s) 0)

-- the bench after a step: "record bit 1 sets the latch whether or not interrupts are enabled; only a reset clears it"; a refused
-- "step changes nothing"
unfoldable pub after : List ℕ → Step → Bench → Bench
after ram (writes port value) b =
    record { state = written b.state port value; latch = b.latch; enable = b.enable; lines = b.lines }
after ram paints b = record {
  state = next_state ram b.state;
  latch = b.latch || edge ram b.state;
  enable = b.enable;
  lines = b.lines + 1;
}
after ram (enables on) b = record { state = b.state; latch = b.latch; enable = on; lines = b.lines }
after ram resets b = record { state = b.state; latch = false; enable = b.enable; lines = b.lines }
after ram unknown b = b

-- the dots that a step paints: those of the next line, with the external bytes of its place in the buffers
abbrev pub step_dots : List ℕ → List ℕ → Step → Bench → List ℕ
step_dots ram external step b =
    cond (is_paint step) (line_dots b.state.registers ram b.state.scan (external_at external b.lines)) []

-- and their record
abbrev pub step_record : List ℕ → Step → Bench → List ℕ
step_record ram step b = cond (is_paint step) (line_record ram b.state) []
