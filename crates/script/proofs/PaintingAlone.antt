-- Steps that write no port paint a frame; so painting steps alone are a painting.
use mathlib.Core.Path.{◌≡◌, refl, sym, ap, ◌∙◌}
use mathlib.Core.Bool.{Bool, false, true≢false, not}
use mathlib.Core.List.{List, [], ◌∷◌, ◌++◌, append-nil}
use Prim.Native.Nat.{ℕ, zero, suc, ◌+◌, ◌-◌, ◌*◌, ◌%◌, ◌<◌, ◌≤◌}
use native.Mathlib.Nat.{zero-add, add-zero}
use native.Mathlib.Numerals.{one-add}
use native.Mathlib.Decide.{ℕ_discrete}
use native.Mathlib.Omega.{arith}
use lib.Dec.{ltb}
use lib.ListN.{length, drop, replicate}
use lib.Seq.{drop-drop}
use borrow.Author.Tests.{ne_eqb, eq-eqb}
use Rattle.lists.proofs.Laws.{front_all}
use Rattle.nick.specs.Sizes.{record_bytes}
use Rattle.nick.specs.Numbers.{byte_at}
use Rattle.nick.specs.Scanline.{line_dots}
use Rattle.nick.specs.Record.{line_record, next_state, state_after}
use Rattle.nick.specs.Refusals.{bad_height, lines_refusal, painting_refusal}
use Rattle.nick.specs.Painting.{external_at, frame_dots, frame_records, painted, refused_painting, paint}
use Rattle.nick.specs.declared.State.{State}
use Rattle.nick.proofs.Refusals.{accepted, painting_lines}
use Rattle.laws.proofs.Frames.{external_later, dots_add, records_add}
use Rattle.laws.proofs.StatesAfter.{state_add}
use Rattle.laws.proofs.Paintings.{accepted_is, refused_is}
use Rattle.script.specs.Steps.{Step, writes, paints, enables, resets, unknown, steps_of, is_paint, lines_in, begins, after, step_dots, step_record}
use Rattle.script.specs.Runs.{done, stop_number, bench_after, dots_after, records_after, run_refusal, refused_run, ran, run}
use Rattle.script.specs.Stretches.{PaintsAlone, IsPainting, PaintingAlone, any_of, is_write}
use Rattle.script.specs.declared.Bench.{Bench}
use Rattle.script.proofs.RunTable.{whole_refusal, ran_is, refused_run_is}
use Rattle.script.proofs.InOrder.{done_all, bench_lines}

-- steps that write no port paint a frame
pub record AsFrame (ram external : List ℕ) (steps : List Step) (b : Bench) : Type 0 where
  pub state : (bench_after ram steps b).state ≡ state_after ram (lines_in steps) b.state
  pub dots : dots_after ram external steps b ≡ frame_dots ram (drop (736 * b.lines) external) (lines_in steps) b.state
  pub records : records_after ram steps b ≡ frame_records ram (lines_in steps) b.state

module _ (ram external : List ℕ) (more : List Step) where
  -- a step before them that paints nothing and writes nothing
  quiet_frame :
      (step : Step) (b : Bench)
      → is_paint step ≡ false
      → (after ram step b).state ≡ b.state
      → (after ram step b).lines ≡ b.lines
      → AsFrame ram external more (after ram step b)
      → AsFrame ram external (step ∷ more) b
  quiet_frame step b quiet state lines f =
      let next = after ram step b in
      let n = lines_in more in
      let count : n ≡ lines_in (step ∷ more) = rw quiet (sym (zero-add n)) in
      let no-dots : step_dots ram external step b ≡ [] = rw quiet in
      let no_record : step_record ram step b ≡ [] = rw quiet in
      record {
        state = f.state ∙ ap (state_after ram n) state ∙ ap (λ (k : ℕ). state_after ram k b.state) count;
        dots =
            ap (λ (l : List ℕ). l ++ dots_after ram external more next) no-dots
            ∙ f.dots
            ∙ ap (λ (k : ℕ). frame_dots ram (drop (736 * k) external) n next.state) lines
            ∙ ap (frame_dots ram (drop (736 * b.lines) external) n) state
            ∙ ap (λ (k : ℕ). frame_dots ram (drop (736 * b.lines) external) k b.state) count;
        records =
            ap (λ (l : List ℕ). l ++ records_after ram more next) no_record
            ∙ f.records
            ∙ ap (frame_records ram n) state
            ∙ ap (λ (k : ℕ). frame_records ram k b.state) count;
      }

  -- a line before them
  line_frame : (b : Bench) → AsFrame ram external more (after ram paints b) → AsFrame ram external (paints ∷ more) b
  unfolding after
  line_frame b f =
      let n = lines_in more in
      let s = b.state in
      let own = drop (736 * b.lines) external in
      let next : 736 * (b.lines + 1) ≡ 736 * b.lines + 736 = omega arith in
      let later : drop (736 * (b.lines + 1)) external ≡ drop 736 own =
      ap (λ (k : ℕ). drop k external) next ∙ sym (drop-drop 736 (736 * b.lines) external) in
      let first : external_at external b.lines ≡ external_at own 0 =
      ap (external_at external) (sym (add-zero b.lines)) ∙ external_later external b.lines 0 in
      record {
        state = f.state ∙ sym (state_add ram 1 n s);
        dots =
            ap (λ (e : ℕ → ℕ). line_dots s.registers ram s.scan e ++ dots_after ram external more (after ram paints b)) first
            ∙ ap (λ (l : List ℕ). line_dots s.registers ram s.scan (external_at own 0) ++ l)
            (f.dots ∙ ap (λ (l : List ℕ). frame_dots ram l n (next_state ram s)) later)
            ∙ sym (dots_add ram own 1 s n);
        records = ap (λ (l : List ℕ). line_record ram s ++ l) f.records ∙ sym (records_add ram 1 s n);
      }

module _ (ram external : List ℕ) where
  pub as_frame : (steps : List Step) (b : Bench) → any_of is_write steps ≡ false → AsFrame ram external steps b
  unfolding after
  as_frame [] b e = record { state = refl; dots = refl; records = refl }
  as_frame (writes port value ∷ more) b e = absurd (true≢false e)
  as_frame (paints ∷ more) b e = line_frame ram external more b (as_frame more (after ram paints b) e)
  as_frame (enables on ∷ more) b e = quiet_frame ram external more (enables on) b refl refl refl (as_frame more (after ram (enables on) b) e)
  as_frame (resets ∷ more) b e = quiet_frame ram external more resets b refl refl refl (as_frame more (after ram resets b) e)
  as_frame (unknown ∷ more) b e = quiet_frame ram external more unknown b refl refl refl (as_frame more (after ram unknown b) e)

-- n steps that paint, and nothing else
abbrev lines : ℕ → List Step
lines n = replicate n paints

lines_of : (n : ℕ) → lines_in (lines n) ≡ n
lines_of zero = refl
lines_of (suc n) = rw (lines_of n) (one-add n)

lines_go_on : (n : ℕ) → stop_number (lines n) ≡ 0
lines_go_on zero = refl
lines_go_on (suc n) = lines_go_on n

lines_write_nothing : (n : ℕ) → any_of is_write (lines n) ≡ false
lines_write_nothing zero = refl
lines_write_nothing (suc n) = lines_write_nothing n

alone_steps : (n : ℕ) (script : List ℕ) → PaintsAlone n script → steps_of script ≡ lines n
alone_steps zero [] p = refl
alone_steps zero (kind ∷ more) p = absurd (omega (arith, p.0))
alone_steps (suc n) [] p = absurd (omega (arith, p.0))
alone_steps (suc n) (kind ∷ []) p = absurd (omega (arith, p.0))
alone_steps (suc n) (kind ∷ port ∷ []) p = absurd (omega (arith, p.0))
alone_steps (suc n) (kind ∷ port ∷ value ∷ more) p =
    let first : kind ≡ 1 = p.1 0 (omega arith) in
    let all = kind ∷ port ∷ value ∷ more in
    let kinds : (i : ℕ) → i < n → byte_at more (3 * i) ≡ 1 =
    λ i h. let place : suc (suc (suc (3 * i))) ≡ 3 * suc i = omega arith in ap (byte_at all) place ∙ p.1 (suc i) (omega (arith, h)) in
    rw (first, alone_steps n more (omega (arith, p.0), kinds))

-- the height test of a run is that of a painting, where there is a line
same_height : (n : ℕ) → 1 ≤ n → ltb 1024 n ≡ bad_height n
same_height n h = rw (ne_eqb n 0 (λ z. absurd (omega (arith, h, z))))

module _ (s : State) (ram script dots records external : List ℕ) (n : ℕ) (some : 1 ≤ n) (alone : PaintsAlone n script) where
  steps_are : steps_of script ≡ lines n
  steps_are = alone_steps n script alone

  asks : lines_in (steps_of script) ≡ n
  asks = ap lines_in steps_are ∙ lines_of n

  does : done (steps_of script) ≡ lines n
  does = ap done steps_are ∙ done_all (lines n) (lines_go_on n)

  -- the run is refused as the painting is
  same_refusal : run_refusal s ram script dots records external ≡ painting_refusal s ram n dots records external
  same_refusal =
      let whole : length script % 3 ≡ 0 = omega (arith, alone.0) in
      whole_refusal s ram script dots records external (ap not (eq-eqb (length script % 3) 0 whole))
      ∙ ap (λ (h : ℕ). lines_refusal (ltb 1024 h) s ram h dots records external) asks
      ∙ ap (λ (five : Bool). lines_refusal five s ram n dots records external) (same_height n some)
      ∙ sym (painting_lines s ram n dots records external)

  begun_lines : (bench_after ram (done (steps_of script)) (begins s)).lines ≡ n
  begun_lines = bench_lines ram (done (steps_of script)) (begins s) ∙ zero-add (lines_in (done (steps_of script))) ∙ ap lines_in does ∙ lines_of n

  accepted_alone :
      painting_refusal s ram n dots records external ≡ 0
      → IsPainting (run s ram script dots records external) (paint s ram n dots records external)
  unfolding ran painted
  accepted_alone z =
      let fits = accepted s ram n dots records external z in
      let frame = as_frame ram external (lines n) (begins s) (lines_write_nothing n) in
      let no-rest : length records - record_bytes * n ≡ 0 = omega (arith, fits.bytes) in
      rw (ran_is s ram script dots records external (same_refusal ∙ z), accepted_is s ram n dots records external z)
      (record {
        ended = rw (steps_are, lines_go_on n);
        state = rw does (frame.state ∙ ap (λ (k : ℕ). state_after ram k s) (lines_of n));
        dots =
            rw (begun_lines, does)
            (front_all (dots_after ram external (lines n) (begins s)) dots (736 * n) (omega (arith, fits.places))
            ∙ frame.dots
            ∙ ap (λ (k : ℕ). frame_dots ram external k s) (lines_of n));
        records =
            rw (begun_lines, no-rest, does)
            (append-nil (records_after ram (lines n) (begins s))
            ∙ frame.records
            ∙ ap (λ (k : ℕ). frame_records ram k s) (lines_of n));
      })

  refused_alone :
      (painting_refusal s ram n dots records external ≡ 0 → ⊥)
      → IsPainting (run s ram script dots records external) (paint s ram n dots records external)
  unfolding refused_run refused_painting
  refused_alone r =
      let given = painting_refusal s ram n dots records external in
      rw (
        refused_run_is s ram script dots records external (λ z. r (sym same_refusal ∙ z)),
        refused_is s ram n dots records external r,
        same_refusal,
      )
      (record { ended = rw (ne_eqb given 0 r); state = refl; dots = refl; records = refl })

pub painting_alone : PaintingAlone
painting_alone s ram script dots records external n some alone = go (ℕ_discrete (painting_refusal s ram n dots records external) 0)
  where
    go :
        Dec (painting_refusal s ram n dots records external ≡ 0)
        → IsPainting (run s ram script dots records external) (paint s ram n dots records external)
    go (yes z) = accepted_alone s ram script dots records external n some alone z
    go (no r) = refused_alone s ram script dots records external n some alone r
