-- The latch is on exactly if a line painted since the last reset has VIRQ's edge in its record: by induction over the steps done.
use mathlib.Core.Path.{◌≡◌, refl, sym, ap, ◌∙◌}
use mathlib.Core.Logic.{◌⊎◌, inl, inr}
use mathlib.Core.Bool.{Bool, true, false, true≢false, cond, ◌||◌, or-true, or-false}
use mathlib.Core.List.{List, [], ◌∷◌, ◌++◌}
use Prim.Native.Nat.{ℕ, zero, suc, ◌+◌, ◌-◌, ◌*◌, ◌<◌}
use native.Mathlib.Nat.{not-suc-le-zero, zero-add}
use native.Mathlib.Numerals.{one-add}
use native.Mathlib.Omega.{arith}
use lib.ListN.{length, replicate, get_or-append}
use lib.Seq.{get_or-append-add}
use Rattle.lists.specs.Number.{number}
use Rattle.nick.specs.Sizes.{record_bytes}
use Rattle.nick.specs.Numbers.{is_set, byte_at}
use Rattle.nick.specs.Record.{line_record}
use Rattle.nick.specs.declared.State.{State}
use Rattle.laws.proofs.Frames.{length_record}
use Rattle.script.specs.Steps.{Step, writes, paints, enables, resets, unknown, is_paint, lines_in, steps_of, begins, edge, after}
use Rattle.script.specs.Runs.{done, bench_after, records_after, ran}
use Rattle.script.specs.Stretches.{SinceReset, has_edge, LatchIs, any_of, is_reset}
use Rattle.script.specs.declared.Bench.{Bench}
use Rattle.script.proofs.RunTable.{ran_is}
use Rattle.script.proofs.InOrder.{bench_append, records_append, lines_append, length_records}

module _ (ram : List ℕ) where
  -- the records of a line and then of others
  first_edge : (s : State) (rest : List ℕ) → is_set 1 (byte_at (line_record ram s ++ rest) (record_bytes * 0)) ≡ edge ram s
  unfolding line_record
  first_edge s rest = refl

  later_edge :
      (painted : Bool) (s : State) (rest : List ℕ) (y : ℕ)
      → byte_at (cond painted (line_record ram s) [] ++ rest) (record_bytes * (number painted + y)) ≡ byte_at rest (record_bytes * y)
  later_edge true s rest y =
      let place : record_bytes * (1 + y) ≡ length (line_record ram s) + record_bytes * y = rw (length_record ram s) (omega arith) in
      ap (byte_at (line_record ram s ++ rest)) place ∙ get_or-append-add (line_record ram s) rest (record_bytes * y) 0
  later_edge false s rest y = rw (zero-add y)

  -- without a reset the latch stays on
  stays_on : (steps : List Step) (b : Bench) → any_of is_reset steps ≡ false → b.latch ≡ true → (bench_after ram steps b).latch ≡ true
  unfolding after
  stays_on [] b none on = on
  stays_on (writes port value ∷ more) b none on = stays_on more (after ram (writes port value) b) none on
  stays_on (paints ∷ more) b none on = stays_on more (after ram paints b) none (rw on)
  stays_on (enables enable ∷ more) b none on = stays_on more (after ram (enables enable) b) none on
  stays_on (resets ∷ more) b none on = absurd (true≢false none)
  stays_on (unknown ∷ more) b none on = stays_on more (after ram unknown b) none on

  -- an edge in one of their lines sets it
  edge_sets :
      (steps : List Step) (b : Bench) (y : ℕ) → any_of is_reset steps ≡ false → y < lines_in steps
      → has_edge (records_after ram steps b) y
      → (bench_after ram steps b).latch ≡ true
  unfolding after
  edge_sets [] b y none line e = absurd (not-suc-le-zero line)
  edge_sets (writes port value ∷ more) b y none line e = edge_sets more (after ram (writes port value) b) y none (rw (zero-add (lines_in more)) at line) e
  edge_sets (paints ∷ more) b zero none line e =
      let set : edge ram b.state ≡ true = sym (first_edge b.state (records_after ram more (after ram paints b))) ∙ e in
      stays_on more (after ram paints b) none (rw set (or-true b.latch))
  edge_sets (paints ∷ more) b (suc y) none line e =
      let next = after ram paints b in
      let all = line_record ram b.state ++ records_after ram more next in
      edge_sets more next y none (omega (arith, line))
      (ap (is_set 1) (sym (later_edge true b.state (records_after ram more next) y) ∙ ap (λ (k : ℕ). byte_at all (record_bytes * k)) (one-add y)) ∙ e)
  edge_sets (enables on ∷ more) b y none line e = edge_sets more (after ram (enables on) b) y none (rw (zero-add (lines_in more)) at line) e
  edge_sets (resets ∷ more) b y none line e = absurd (true≢false none)
  edge_sets (unknown ∷ more) b y none line e = edge_sets more (after ram unknown b) y none (rw (zero-add (lines_in more)) at line) e

  -- a line with the edge, since the last reset of these steps
  abbrev EdgeSince : List Step → Bench → Type 0
  EdgeSince steps b = (y : ℕ) × SinceReset steps y × has_edge (records_after ram steps b) y

  -- one step before them
  since_more : (step : Step) (more : List Step) (b : Bench) → EdgeSince more (after ram step b) → EdgeSince (step ∷ more) b
  since_more step more b (y, line, e) = (
    number (is_paint step) + y,
    record {
      before = step ∷ line.before;
      since = line.since;
      parts = ap (λ (l : List Step). step ∷ l) line.parts;
      no_reset = line.no_reset;
      first = omega (arith, line.first);
      last = omega (arith, line.last);
    },
    ap (is_set 1) (later_edge (is_paint step) b.state (records_after ram more (after ram step b)) y) ∙ e,
  )

  -- or of the line that they begin with
  since_first :
      (more : List Step) (b : Bench) → any_of is_reset more ≡ false → edge ram b.state ≡ true → EdgeSince (paints ∷ more) b
  since_first more b none set = (
    0,
    record {
      before = [];
      since = paints ∷ more;
      parts = refl;
      no_reset = none;
      first = omega arith;
      last = omega arith;
    },
    first_edge b.state (records_after ram more (after ram paints b)) ∙ set,
  )

  -- where the latch is on after steps, it was on before them and is not reset, or one of their lines has set it since
  since_on :
      (steps : List Step) (b : Bench) → (bench_after ram steps b).latch ≡ true
      → ((b.latch ≡ true) × (any_of is_reset steps ≡ false)) ⊎ EdgeSince steps b
  unfolding after
  since_on [] b on = inl (on, refl)
  since_on (step ∷ more) b on = go step (since_on more (after ram step b) on)
    where
      by_line : (t : Bool) → edge ram b.state ≡ t → b.latch || t ≡ true → any_of is_reset more ≡ false
          → ((b.latch ≡ true) × (any_of is_reset (paints ∷ more) ≡ false)) ⊎ EdgeSince (paints ∷ more) b
      by_line true set on none = inr (since_first more b none set)
      by_line false set on none = inl (sym (or-false b.latch) ∙ on, none)

      go :
          (step : Step)
          → (((after ram step b).latch ≡ true) × (any_of is_reset more ≡ false)) ⊎ EdgeSince more (after ram step b)
          → ((b.latch ≡ true) × (any_of is_reset (step ∷ more) ≡ false)) ⊎ EdgeSince (step ∷ more) b
      go step (inr line) = inr (since_more step more b line)
      go (writes port value) (inl before) = inl before
      go paints (inl before) = by_line (edge ram b.state) refl before.0 before.1
      go (enables enable) (inl before) = inl before
      go resets (inl before) = absurd (true≢false (sym before.0))
      go unknown (inl before) = inl before

-- a record painted by the steps is the same in the buffer, where stamps may follow
painted_edge : (painted stamps : List ℕ) (n y : ℕ) → length painted ≡ record_bytes * n → y < n
    → is_set 1 (byte_at (painted ++ stamps) (record_bytes * y)) ≡ is_set 1 (byte_at painted (record_bytes * y))
painted_edge painted stamps n y e h =
    ap (is_set 1) (get_or-append painted stamps 0 (record_bytes * y) (rw e (omega (arith, h))))

-- a line since the last reset sets the latch
since_sets :
    (ram : List ℕ) (steps : List Step) (b : Bench) (y : ℕ) → SinceReset steps y → has_edge (records_after ram steps b) y
    → (bench_after ram steps b).latch ≡ true
since_sets ram steps b y line e =
    let before = line.before in
    let since = line.since in
    let then = bench_after ram before b in
    let n = y - lines_in before in
    let lines = ap lines_in line.parts ∙ lines_append before since in
    let split = ap (λ (l : List Step). records_after ram l b) line.parts ∙ records_append ram before since b in
    let place : record_bytes * y ≡ length (records_after ram before b) + record_bytes * n =
    rw (length_records ram before b) (omega (arith, line.first)) in
    let own : byte_at (records_after ram steps b) (record_bytes * y) ≡ byte_at (records_after ram since then) (record_bytes * n) =
    rw (split, place) (get_or-append-add (records_after ram before b) (records_after ram since then) (record_bytes * n) 0) in
    ap (λ (l : List Step). (bench_after ram l b).latch) line.parts
    ∙ ap (λ (c : Bench). c.latch) (bench_append ram before since b)
    ∙ edge_sets ram since then n line.no_reset (omega (arith, line.first, line.last, lines)) (ap (is_set 1) (sym own) ∙ e)

-- from a latch that is off
from_off :
    (ram : List ℕ) (steps : List Step) (b : Bench) → b.latch ≡ false → (bench_after ram steps b).latch ≡ true → EdgeSince ram steps b
from_off ram steps b off on = go (since_on ram steps b on)
  where
    go : ((b.latch ≡ true) × (any_of is_reset steps ≡ false)) ⊎ EdgeSince ram steps b → EdgeSince ram steps b
    go (inl before) = absurd (true≢false (sym before.0 ∙ off))
    go (inr line) = line

pub latch_is : LatchIs
unfolding ran
latch_is s ram script dots records external e =
    let steps = done (steps_of script) in
    let painted = records_after ram steps (begins s) in
    let stamps : List ℕ = replicate (length records - record_bytes * (bench_after ram steps (begins s)).lines) 255 in
    let size = length_records ram steps (begins s) in
    rw (ran_is s ram script dots records external e) (
      λ on.
          let (y, line, set) = from_off ram steps (begins s) refl on in
          (y, line, painted_edge painted stamps (lines_in steps) y size line.last ∙ set),
      λ found.
          let (y, line, set) = found in
          since_sets ram steps (begins s) y line (sym (painted_edge painted stamps (lines_in steps) y size line.last) ∙ set),
    )
