-- What a reader of a run relies on: painting steps alone are a painting, demand 3 between two port writes, no painting step is
-- refused, when the latch is on, and steps in two lists. The proofs are in proofs/PaintingAlone, BetweenWrites, Latch and InOrder.
use Rattle.std.specs.Prelude.{ℕ, ◌+◌, ◌*◌, ◌<◌, ◌≤◌, ◌≡◌, ◌↔◌, Bool, true, false, cond, ◌||◌, List, [], ◌∷◌, ◌++◌, eqb, length, take, drop}
use Rattle.nick.specs.Sizes.{record_bytes}
use Rattle.nick.specs.Numbers.{is_set, byte_at, Bytes}
use Rattle.nick.specs.Painting.{Painting, external_at, paint, paint_line}
use Rattle.nick.specs.Direct.{shows, direct, direct_names}
use Rattle.nick.specs.declared.State.{State}
use Rattle.script.specs.Steps.{Step, writes, paints, enables, resets, unknown, steps_of, lines_in, begins, after, step_dots, step_record}
use Rattle.script.specs.Runs.{Ended, finished, refused, stopped, done, stop_number, bench_after, leaves, run_refusal, Run, run}
use Rattle.script.specs.declared.Bench.{Bench}

-- A script of n steps of kind 1, whatever their other two bytes.
abbrev pub PaintsAlone : ℕ → List ℕ → Type 0
PaintsAlone n script = (length script ≡ 3 * n) × ((i : ℕ) → i < n → byte_at script (3 * i) ≡ 1)

-- how such a run ends: it finishes, or it is refused with painting's number
abbrev pub ended_as : ℕ → Ended
ended_as n = cond (eqb n 0) finished (refused n)

-- It is the painting of n lines, refused ones included: the same refusal, state, dots and records.
pub record IsPainting (r : Run) (p : Painting) : Type 0 where
  pub ended : r.ended ≡ ended_as p.refusal
  pub state : r.bench.state ≡ p.state
  pub dots : r.dots ≡ p.dots
  pub records : r.records ≡ p.records

abbrev pub PaintingAlone : Type 0
PaintingAlone =
    (s : State) (ram script dots records external : List ℕ) (n : ℕ)
    → 1 ≤ n
    → PaintsAlone n script
    → IsPainting (run s ram script dots records external) (paint s ram n dots records external)

-- a test holds of some step
abbrev pub any_of : (Step → Bool) → List Step → Bool
any_of test [] = false
any_of test (step ∷ more) = test step || any_of test more

-- a step that writes a port
abbrev pub is_write : Step → Bool
is_write (writes port value) = true
is_write paints = false
is_write (enables on) = false
is_write resets = false
is_write unknown = false

-- The run reaches a stretch of the script's steps: it is not refused before its first step, and none of the steps before the
-- stretch is refused. The run may stop inside it.
pub record Reaches (s : State) (ram script dots records external : List ℕ) (before stretch rest : List Step) : Type 0 where
  pub begun : run_refusal s ram script dots records external ≡ 0
  pub parts : steps_of script ≡ before ++ (stretch ++ rest)
  pub goes_on : stop_number before ≡ 0

-- "Demand 3 is claimed between two port writes only": in a stretch without a port write, from the bench as it stands where the
-- stretch begins, the line that is painted in it as its y-th, from 0, has at dot x the colour of the direct answer, which is no
-- refusal and names the rules' addresses. What is asked of LPL and of the script is that they hold bytes.
abbrev pub BetweenWrites : Type 0
BetweenWrites =
    (s : State) (ram script dots records external : List ℕ) (before stretch rest : List Step) (y x : ℕ)
    → s.registers.lpl < 256
    → Bytes script
    → Reaches s ram script dots records external before stretch rest
    → any_of is_write stretch ≡ false
    → y < lines_in (done stretch)
    → x ≤ 735
    → let b = bench_after ram before (begins s) in
    direct b.state ram y x (external_at external (b.lines + y) x)
    ≡ shows (record {
      colour = byte_at (run s ram script dots records external).dots (736 * (b.lines + y) + x);
      names = direct_names b.state ram y x;
    })

-- A painting step is never refused: the line it stands for, painted by itself from the bench as it then stands into any buffers of
-- a line, with that line's part of the external input, is painted, and it is what the step does.
abbrev pub NeverRefused : Type 0
NeverRefused =
    (s : State) (ram script dots records external line_dots lineRecords : List ℕ) (before rest : List Step)
    → s.registers.lpl < 256
    → Bytes script
    → Reaches s ram script dots records external before (paints ∷ []) rest
    → length line_dots ≡ 736
    → length lineRecords ≡ record_bytes
    → let b = bench_after ram before (begins s) in
    paint_line b.state ram line_dots lineRecords (take 736 (drop (736 * b.lines) external))
    ≡ record {
      refusal = 0;
      state = (after ram paints b).state;
      dots = step_dots ram external paints b;
      records = step_record ram paints b;
    }

-- a step that resets the latch
abbrev pub is_reset : Step → Bool
is_reset (writes port value) = false
is_reset paints = false
is_reset (enables on) = false
is_reset resets = true
is_reset unknown = false

-- line y of the steps done is painted in a part of them in which, and after which, there is no reset
pub record SinceReset (steps : List Step) (y : ℕ) : Type 0 where
  pub before : List Step
  pub since : List Step
  pub parts : steps ≡ before ++ since
  pub no_reset : any_of is_reset since ≡ false
  pub first : lines_in before ≤ y
  pub last : y < lines_in steps

-- "record bit 1", of line y
abbrev pub has_edge : List ℕ → ℕ → Type 0
has_edge records y = is_set 1 (byte_at records (record_bytes * y)) ≡ true

-- The latch is on at the end exactly if a line painted since the last reset has record bit 1.
abbrev pub LatchIs : Type 0
LatchIs =
    (s : State) (ram script dots records external : List ℕ)
    → run_refusal s ram script dots records external ≡ 0
    → let r = run s ram script dots records external in
    (r.bench.latch ≡ true) ↔ ((y : ℕ) × SinceReset (done (steps_of script)) y × has_edge r.records y)

-- the place where a second list of steps ends, n steps having been done before
abbrev pub later : ℕ → Ended → Ended
later n finished = finished
later n (refused number) = refused number
later n (stopped number place) = stopped number (n + place)

-- Two lists of steps one after the other do what the second does from what the first left, so long as the first is not stopped.
abbrev pub InTwoLists : Type 0
InTwoLists =
    (ram external : List ℕ) (first second : List Step) (b : Bench)
    → stop_number first ≡ 0
    → let one = leaves ram external first b in
    let two = leaves ram external second one.bench in
    leaves ram external (first ++ second) b
    ≡ record {
      ended = later (length first) two.ended;
      bench = two.bench;
      dots = one.dots ++ two.dots;
      records = one.records ++ two.records;
    }
