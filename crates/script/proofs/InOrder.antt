-- Laws on steps in order: two lists of steps one after the other, which of them are done, and how much they paint.
use mathlib.Core.Path.{◌≡◌, refl, sym, ap, ◌∙◌}
use mathlib.Core.Bool.{Bool, true, false, cond}
use mathlib.Core.List.{List, [], ◌∷◌, ◌++◌, append-nil, append_assoc}
use Prim.Native.Nat.{ℕ, ◌+◌, ◌*◌}
use native.Mathlib.Nat.{add-zero, zero-add, add_assoc, mul-zero, mul-one}
use native.Mathlib.Omega.{arith}
use lib.Dec.{eqb}
use lib.ListN.{length, length-append}
use borrow.Author.Tests.{eqb-true, eqb-false}
use Rattle.lists.specs.Number.{number}
use Rattle.nick.specs.Sizes.{record_bytes}
use Rattle.nick.specs.Scanline.{line_dots}
use Rattle.nick.specs.Record.{line_record}
use Rattle.nick.specs.Painting.{external_at}
use Rattle.laws.proofs.LineDots.{length_line}
use Rattle.laws.proofs.Frames.{length_record}
use Rattle.script.specs.Steps.{Step, is_paint, lines_in, step_refusal, after, step_dots, step_record}
use Rattle.script.specs.Runs.{finished, stopped, done, stop_number, end_of, bench_after, dots_after, records_after}
use Rattle.script.specs.Stretches.{later, InTwoLists}
use Rattle.script.specs.declared.Bench.{Bench}
use Rattle.script.proofs.StepLaws.{lines_after}

-- steps of which none is refused: the first is not, nor is any after it
goes_on_lem : (step : Step) (more : List Step) → stop_number (step ∷ more) ≡ 0 → (step_refusal step ≡ 0) × (stop_number more ≡ 0)
goes_on_lem step more = go (eqb (step_refusal step) 0) refl
  where
    go :
        (t : Bool)
        → eqb (step_refusal step) 0 ≡ t
        → cond t (stop_number more) (step_refusal step) ≡ 0
        → (step_refusal step ≡ 0) × (stop_number more ≡ 0)
    go true e h = (eqb-true (step_refusal step) 0 e, h)
    go false e h = absurd (eqb-false (step_refusal step) 0 e h)

-- they are all done, and then those of the second list
pub done_append : (first second : List Step) → stop_number first ≡ 0 → done (first ++ second) ≡ first ++ done second
done_append [] second e = refl
done_append (step ∷ more) second e =
    let (one, rest) = goes_on_lem step more e in
    rw (one, done_append more second rest)

stop_append : (first second : List Step) → stop_number first ≡ 0 → stop_number (first ++ second) ≡ stop_number second
stop_append [] second e = refl
stop_append (step ∷ more) second e =
    let (one, rest) = goes_on_lem step more e in
    rw (one, stop_append more second rest)

pub done_all : (steps : List Step) → stop_number steps ≡ 0 → done steps ≡ steps
done_all steps e = ap done (sym (append-nil steps)) ∙ done_append steps [] e ∙ append-nil steps

-- what is done of a list is the beginning of what is done of a longer one
abbrev pub onward : List Step → List Step → List Step
onward first second = cond (eqb (stop_number first) 0) (done second) []

pub done_first : (first second : List Step) → done (first ++ second) ≡ done first ++ onward first second
done_first [] second = refl
done_first (step ∷ more) second = go (eqb (step_refusal step) 0) refl (done_first more second)
  where
    go :
        (t : Bool)
        → eqb (step_refusal step) 0 ≡ t
        → done (more ++ second) ≡ done more ++ onward more second
        → cond t (step ∷ done (more ++ second)) []
        ≡ cond t (step ∷ done more) [] ++ cond (eqb (cond t (stop_number more) (step_refusal step)) 0) (done second) []
    go true e ih = ap (λ (l : List Step). step ∷ l) ih
    go false e ih = rw e

module _ (ram : List ℕ) where
  pub bench_append :
      (first second : List Step) (b : Bench)
      → bench_after ram (first ++ second) b ≡ bench_after ram second (bench_after ram first b)
  bench_append [] second b = refl
  bench_append (step ∷ more) second b = bench_append more second (after ram step b)

  pub records_append :
      (first second : List Step) (b : Bench)
      → records_after ram (first ++ second) b
      ≡ records_after ram first b ++ records_after ram second (bench_after ram first b)
  records_append [] second b = refl
  records_append (step ∷ more) second b =
      let next = after ram step b in
      rw (records_append more second next)
      (sym (append_assoc (step_record ram step b) (records_after ram more next) (records_after ram second (bench_after ram more next))))

  pub dots_append :
      (external : List ℕ) (first second : List Step) (b : Bench)
      → dots_after ram external (first ++ second) b
      ≡ dots_after ram external first b ++ dots_after ram external second (bench_after ram first b)
  dots_append external [] second b = refl
  dots_append external (step ∷ more) second b =
      let next = after ram step b in
      rw (dots_append external more second next)
      (sym (append_assoc (step_dots ram external step b) (dots_after ram external more next) (dots_after ram external second (bench_after ram more next))))

pub lines_append : (first second : List Step) → lines_in (first ++ second) ≡ lines_in first + lines_in second
lines_append [] second = sym (zero-add (lines_in second))
lines_append (step ∷ more) second =
    rw (lines_append more second) (sym (add_assoc (number (is_paint step)) (lines_in more) (lines_in second)))

-- how many lines there are after steps, and how long their dots and records are
pub bench_lines : (ram : List ℕ) (steps : List Step) (b : Bench) → (bench_after ram steps b).lines ≡ b.lines + lines_in steps
bench_lines ram [] b = sym (add-zero b.lines)
bench_lines ram (step ∷ more) b =
    bench_lines ram more (after ram step b)
    ∙ rw (lines_after ram step b) (add_assoc b.lines (number (is_paint step)) (lines_in more))

-- a row that is painted or not: how long it is
pub length_row : (painted : Bool) (w : ℕ) (row : List ℕ) → length row ≡ w → length (cond painted row []) ≡ w * number painted
length_row true w row e = e ∙ sym (mul-one w)
length_row false w row e = sym (mul-zero w)

pub length_dots :
    (ram external : List ℕ) (steps : List Step) (b : Bench) → length (dots_after ram external steps b) ≡ 736 * lines_in steps
length_dots ram external [] b = refl
length_dots ram external (step ∷ more) b =
    let line = line_dots b.state.registers ram b.state.scan (external_at external b.lines) in
    let one = length_row (is_paint step) 736 line (length_line b.state.registers ram b.state.scan (external_at external b.lines)) in
    length-append (step_dots ram external step b) (dots_after ram external more (after ram step b))
    ∙ omega (arith, one, length_dots ram external more (after ram step b))

pub length_records :
    (ram : List ℕ) (steps : List Step) (b : Bench) → length (records_after ram steps b) ≡ record_bytes * lines_in steps
length_records ram [] b = refl
length_records ram (step ∷ more) b =
    let one = length_row (is_paint step) record_bytes (line_record ram b.state) (length_record ram b.state) in
    length-append (step_record ram step b) (records_after ram more (after ram step b))
    ∙ omega (arith, one, length_records ram more (after ram step b))

-- the end of the second list is that of both, with its place counted on
end_append :
    (first second : List Step) → stop_number first ≡ 0 → end_of (first ++ second) ≡ later (length first) (end_of second)
end_append first second e =
    rw (stop_append first second e, done_append first second e, length-append first (done second))
    (go (eqb (stop_number second) 0))
  where
    go :
        (t : Bool)
        → cond t finished (stopped (stop_number second) (length first + length (done second)))
        ≡ later (length first) (cond t finished (stopped (stop_number second) (length (done second))))
    go true = refl
    go false = refl

pub in_two_lists : InTwoLists
in_two_lists ram external first second b e =
    rw (
      end_append first second e,
      done_append first second e,
      done_all first e,
      bench_append ram first (done second) b,
      dots_append ram external first (done second) b,
      records_append ram first (done second) b,
    )
    refl
