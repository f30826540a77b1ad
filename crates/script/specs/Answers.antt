-- What each case of the code's answers stands for, and the promises of a step, of a script's steps in order and of a run.
use Rattle.std.specs.Prelude.{Option, None, Some, Result, Ok, Err, ℕ, ◌-◌, ◌*◌, ◌≤◌, ◌≡◌, List, ◌++◌, length, take, drop, replicate}
use Rattle.nick.specs.Sizes.{record_bytes}
use Rattle.nick.specs.Numbers.{byte_at}
use Rattle.nick.specs.Refusals.{Formed, number_of}
use Rattle.nick.specs.declared.State.{State}
use Rattle.script.specs.Steps.{Step, writes, paints, enables, resets, unknown, step_of, steps_of, lines_in, begins, after, step_dots, step_record}
use Rattle.script.specs.Runs.{Ended, finished, refused, stopped, leaves, requests, run}
use Rattle.script.specs.declared.Bench.{Bench}
use Rattle.script.specs.declared.Failure.{Failure}
use Rattle.script.specs.declared.Failure.TheVariants.{Refused, Stopped}
use Rattle.script.specs.declared.Ran.{Ran}
use Rattle.script.specs.declared.steps.Step.{Step as Read}
use Rattle.script.specs.declared.steps.Step.TheVariants.{Write, Paint, Enable, Reset}

-- how a run ended
abbrev pub ended_by : Result (Unit {0}) Failure → Ended
ended_by (Ok done) = finished
ended_by (Err (Refused refusal)) = refused (number_of refusal)
ended_by (Err (Stopped refusal place)) = stopped (number_of refusal) place

-- the step that three bytes make, and the one that is read
abbrev pub step_in : List ℕ → Step
step_in bytes = step_of (byte_at bytes 0) (byte_at bytes 1) (byte_at bytes 2)

abbrev pub step_read : Option Read → Step
step_read None = unknown
step_read (Some (Write port value)) = writes port value
step_read (Some Paint) = paints
step_read (Some (Enable on)) = enables on
step_read (Some Reset) = resets

-- the promise of a step, refused or not: the bench after it, and what it paints after the lines painted before
pub record Does (step : Step) (ram external : List ℕ) (b : Bench) (dots₀ dots₁ records₀ records₁ : List ℕ) (c : Bench) : Type 0 where
  pub bench : c ≡ after ram step b
  pub dots : dots₁ ≡ take (736 * b.lines) dots₀ ++ (step_dots ram external step b ++ drop (736 * c.lines) dots₀)
  pub records :
      records₁
      ≡ take (record_bytes * b.lines) records₀ ++ (step_record ram step b ++ drop (record_bytes * c.lines) records₀)
  pub formed : Formed c.state.scan

-- the promise of a script's steps in order, begun from a state
pub record DoesAll (s : State) (ram script external dots₀ dots₁ records₀ records₁ : List ℕ) (b : Bench) (r : Result (Unit {0}) Failure) : Type 0 where
  pub ended : ended_by r ≡ (leaves ram external (steps_of script) (begins s)).ended
  pub bench : b ≡ (leaves ram external (steps_of script) (begins s)).bench
  pub dots : dots₁ ≡ (leaves ram external (steps_of script) (begins s)).dots ++ drop (736 * b.lines) dots₀
  pub records : records₁ ≡ (leaves ram external (steps_of script) (begins s)).records ++ drop (record_bytes * b.lines) records₀
  pub most : b.lines ≤ lines_in (steps_of script)

-- the promise of a run before the records of the lines that are not painted are stamped
pub record Steps (s : State) (ram script dots₀ records₀ external dots₁ records₁ : List ℕ) (b : Bench) (r : Result (Unit {0}) Failure) : Type 0 where
  pub ended : ended_by r ≡ (run s ram script dots₀ records₀ external).ended
  pub bench : b ≡ (run s ram script dots₀ records₀ external).bench
  pub request : requests b ≡ (run s ram script dots₀ records₀ external).request
  pub dots : dots₁ ≡ (run s ram script dots₀ records₀ external).dots
  pub records :
      take (record_bytes * b.lines) records₁ ++ replicate (length records₁ - record_bytes * b.lines) 255
      ≡ (run s ram script dots₀ records₀ external).records
  pub inside : record_bytes * b.lines ≤ length records₁

-- The promise of a run: the answer, the dots and the records are those of the rules' run.
pub record Runs (s : State) (ram script dots₀ records₀ external dots₁ records₁ : List ℕ) (r : Ran) : Type 0 where
  pub ended : ended_by r.outcome ≡ (run s ram script dots₀ records₀ external).ended
  pub bench : r.bench ≡ (run s ram script dots₀ records₀ external).bench
  pub request : r.request ≡ (run s ram script dots₀ records₀ external).request
  pub dots : dots₁ ≡ (run s ram script dots₀ records₀ external).dots
  pub records : records₁ ≡ (run s ram script dots₀ records₀ external).records
