-- Document 02, item 3: the run of a script, refused before its first step, stopped at a step, or finished.
use Rattle.std.specs.Prelude.{ℕ, ◌-◌, ◌*◌, ◌%◌, Bool, not, cond, ◌&&◌, List, [], ◌∷◌, ◌++◌, eqb, ltb, length, drop, replicate}
use Rattle.nick.specs.Sizes.{record_bytes}
use Rattle.nick.specs.Refusals.{lines_refusal}
use Rattle.nick.specs.declared.State.{State}
use Rattle.script.specs.Steps.{Step, steps_of, lines_in, step_refusal, begins, after, step_dots, step_record}
use Rattle.script.specs.declared.Bench.{Bench}

-- "The run stops at the first refused step": the steps before it, which are done
abbrev pub done : List Step → List Step
done [] = []
done (step ∷ more) = cond (eqb (step_refusal step) 0) (step ∷ done more) []

-- that step's number, 0 where no step is refused
abbrev pub stop_number : List Step → ℕ
stop_number [] = 0
stop_number (step ∷ more) = cond (eqb (step_refusal step) 0) (stop_number more) (step_refusal step)

-- how a run ends: all steps done; refused before the first step; or stopped at a step
pub data Ended : Type 0 where
  finished : Ended
  refused : (number : ℕ) → Ended
  stopped : (number place : ℕ) → Ended

-- it "gives its number and place (the first is 0)"
abbrev pub end_of : List Step → Ended
end_of steps = cond (eqb (stop_number steps) 0) finished (stopped (stop_number steps) (length (done steps)))

-- steps done one after another: the bench after them, and the dots and records that they paint
abbrev pub bench_after : List ℕ → List Step → Bench → Bench
bench_after ram [] b = b
bench_after ram (step ∷ more) b = bench_after ram more (after ram step b)

abbrev pub dots_after : List ℕ → List ℕ → List Step → Bench → List ℕ
dots_after ram external [] b = []
dots_after ram external (step ∷ more) b = step_dots ram external step b ++ dots_after ram external more (after ram step b)

abbrev pub records_after : List ℕ → List Step → Bench → List ℕ
records_after ram [] b = []
records_after ram (step ∷ more) b = step_record ram step b ++ records_after ram more (after ram step b)

-- what a list of steps leaves, begun from any bench: "what earlier steps did stands"
pub record Left : Type 0 where
  pub ended : Ended
  pub bench : Bench
  pub dots : List ℕ
  pub records : List ℕ

abbrev pub leaves : List ℕ → List ℕ → List Step → Bench → Left
leaves ram external steps b = record {
  ended = end_of steps;
  bench = bench_after ram (done steps) b;
  dots = dots_after ram external (done steps) b;
  records = records_after ram (done steps) b;
}

-- "refusal 19 for a script length not a multiple of 3"
abbrev pub half_step : List ℕ → Bool
half_step script = not (eqb (length script % 3) 0)

-- "Before the first step, 3 to 8 are tested as for a painting of as many lines as there are whole steps of kind 1 (with none, 5
-- isn't given), then refusal 19"
unfoldable pub run_refusal : State → List ℕ → List ℕ → List ℕ → List ℕ → List ℕ → ℕ
run_refusal s ram script dots records external =
    let h = lines_in (steps_of script) in
    let n = lines_refusal (ltb 1024 h) s ram h dots records external in
    cond (eqb n 0) (cond (half_step script) 19 0) n

-- what a run returns, and leaves in the buffers: "A run, stopped or not, returns state, latch, enable and request as they then
-- stand."
pub record Run : Type 0 where
  pub ended : Ended
  pub bench : Bench
  pub request : Bool
  pub dots : List ℕ
  pub records : List ℕ

-- "the request is given while latch and enable are both on"
abbrev pub requests : Bench → Bool
requests b = b.latch && b.enable

-- "either way the state is as given, the dots are kept and the records are stamped"
unfoldable pub refused_run : ℕ → State → List ℕ → List ℕ → Run
refused_run n s dots records = record {
  ended = refused n;
  bench = begins s;
  request = requests (begins s);
  dots = dots;
  records = replicate (length records) 255;
}

-- "lines not painted keep their dots and get stamped records"
unfoldable pub ran : State → List ℕ → List ℕ → List ℕ → List ℕ → List ℕ → Run
ran s ram script dots records external =
    let left = leaves ram external (steps_of script) (begins s) in
    let lines = left.bench.lines in
    record {
      ended = left.ended;
      bench = left.bench;
      request = requests left.bench;
      dots = left.dots ++ drop (736 * lines) dots;
      records = left.records ++ replicate (length records - record_bytes * lines) 255;
    }

-- the run of a script
unfoldable pub run : State → List ℕ → List ℕ → List ℕ → List ℕ → List ℕ → Run
run s ram script dots records external =
    let n = run_refusal s ram script dots records external in
    cond (eqb n 0) (ran s ram script dots records external) (refused_run n s dots records)
