-- Laws on a script's steps in order: what a loop over them keeps, one step more, and a refused one.
use mathlib.Core.Path.{◌≡◌, refl, sym, ap, ◌∙◌}
use mathlib.Core.List.{List, [], ◌∷◌, ◌++◌}
use Prim.Native.Nat.{ℕ, ◌+◌, ◌/◌, ◌<◌}
use native.Mathlib.Omega.{arith}
use lib.ListN.{length, get_or}
use borrow.Author.Tests.{ne_eqb}
use Rattle.lists.specs.Number.{number}
use Rattle.nick.specs.Sizes.{record_bytes}
use Rattle.nick.specs.Scanline.{line_dots}
use Rattle.nick.specs.Record.{line_record}
use Rattle.nick.specs.Painting.{external_at}
use Rattle.nick.specs.Refusals.{Formed, Accepted, number_of}
use Rattle.nick.specs.declared.State.{State}
use Rattle.laws.proofs.LineDots.{length_line}
use Rattle.laws.proofs.Frames.{length_record}
use Rattle.script.specs.Steps.{Step, steps_of, is_paint, lines_in, step_refusal, begins, step_dots, step_record}
use Rattle.script.specs.Runs.{done, stop_number, bench_after, dots_after, records_after}
use Rattle.script.specs.Answers.{Does, DoesAll}
use Rattle.script.specs.declared.Bench.{Bench}
use Rattle.script.specs.declared.Failure.TheVariants.{Stopped}
use Rattle.script.proofs.StepLaws.{lines_after, refused_quiet, refused_keeps}
use Rattle.script.proofs.InOrder.{length_row}
use Rattle.std.specs.Simd.{first_chunks}
use Rattle.script.specs.Answers.{step_in}
use Rattle.script.proofs.Ahead.{step_chunk, ahead, ahead_more}
use Rattle.painting.proofs.Numbers.{no_zero}
use Rattle.std.specs.Prelude.{Err}
use Rattle.nick.specs.declared.refusal.Refusal.{Refusal}
use Rattle.script.proofs.Kept.{Kept, kept_more, kept_all}

-- What a loop over the places of a script keeps: as the rules' bench stands after the steps before this place, the steps ahead lead
-- to the same end as all of them from the beginning.
pub record Going (s : State) (ram script external dots₀ records₀ : List ℕ) (place : ℕ) (b : Bench) (dots₁ records₁ : List ℕ) : Type 0 where
  pub stop : stop_number (ahead script place) ≡ stop_number (steps_of script)
  pub count : place + length (done (ahead script place)) ≡ length (done (steps_of script))
  pub bench : bench_after ram (done (ahead script place)) b ≡ bench_after ram (done (steps_of script)) (begins s)
  pub dots : Kept 736 dots₀ (dots_after ram external (done (steps_of script)) (begins s)) b.lines dots₁ (dots_after ram external (done (ahead script place)) b)
  pub records : Kept record_bytes records₀ (records_after ram (done (steps_of script)) (begins s)) b.lines records₁ (records_after ram (done (ahead script place)) b)
  pub lines : b.lines + lines_in (ahead script place) ≡ lines_in (steps_of script)
  pub formed : Formed b.state.scan

module _ {s : State} {ram script external dots₀ records₀ : List ℕ} where
  module _ {place : ℕ} {b : Bench} {dots records : List ℕ} (g : Going s ram script external dots₀ records₀ place b dots records) where
    -- the step at this place of the steps, which are three bytes each
    module _ {steps : List (List ℕ)} (fits : Accepted s ram (lines_in (steps_of script)) dots₀ records₀)
        (front : steps ≡ first_chunks 3 (length script / 3) script) (count : length steps ≡ length script / 3) (some : place < length steps) where
      abbrev here : Step
      here = step_in (get_or steps place [])

      more : ahead script place ≡ here ∷ ahead script (place + 1)
      more = rw (front, step_chunk script place (length script / 3) (omega arith)) (ahead_more script place (omega arith))

      lines_here : lines_in (ahead script place) ≡ number (is_paint here) + lines_in (ahead script (place + 1))
      lines_here = ap lines_in more

      module _ {dots₁ records₁ : List ℕ} {c : Bench}
          (d : Does here ram external b dots dots₁ records records₁ c)
          (places : length dots₁ ≡ length dots) (bytes : length records₁ ≡ length records) where
        lines_now : c.lines ≡ b.lines + number (is_paint here)
        lines_now = ap (λ (x : Bench). x.lines) d.bench ∙ lines_after ram here b

        -- both buffers after the step, `next` being what is painted after it
        dots_now :
            (next : List ℕ)
            → dots_after ram external (done (ahead script place)) b ≡ step_dots ram external here b ++ next
            → Kept 736 dots₀ (dots_after ram external (done (steps_of script)) (begins s)) c.lines dots₁ next
        dots_now next e =
            let line = line_dots b.state.registers ram b.state.scan (external_at external b.lines) in
            let size = length_row (is_paint here) 736 line (length_line b.state.registers ram b.state.scan (external_at external b.lines)) in
            kept_more (step_dots ram external here b) next (rw e at g.dots) c.lines dots₁
            (omega (arith, fits.places, g.dots.size, g.lines)) (omega (arith, size, lines_now)) places d.dots

        records_now :
            (next : List ℕ)
            → records_after ram (done (ahead script place)) b ≡ step_record ram here b ++ next
            → Kept record_bytes records₀ (records_after ram (done (steps_of script)) (begins s)) c.lines records₁ next
        records_now next e =
            let size = length_row (is_paint here) record_bytes (line_record ram b.state) (length_record ram b.state) in
            kept_more (step_record ram here b) next (rw e at g.records) c.lines records₁
            (omega (arith, fits.bytes, g.records.size, g.lines)) (omega (arith, size, lines_now)) bytes d.records

        -- one step more
        pub going_more : 0 ≡ step_refusal here → Going s ram script external dots₀ records₀ (place + 1) c dots₁ records₁
        going_more e =
            let accepted = sym e in
            let rest = done (ahead script (place + 1)) in
            let steps : done (ahead script place) ≡ here ∷ rest = rw (more, accepted) in
            let stop : stop_number (ahead script place) ≡ stop_number (ahead script (place + 1)) = rw (more, accepted) in
            record {
              stop = sym stop ∙ g.stop;
              count = omega (arith, g.count, ap length steps);
              bench = ap (bench_after ram rest) d.bench ∙ sym (ap (λ (l : List Step). bench_after ram l b) steps) ∙ g.bench;
              dots =
                  dots_now (dots_after ram external rest c)
                  (ap (λ (l : List Step). dots_after ram external l b) steps
                  ∙ ap (λ (x : Bench). step_dots ram external here b ++ dots_after ram external rest x) (sym d.bench));
              records =
                  records_now (records_after ram rest c)
                  (ap (λ (l : List Step). records_after ram l b) steps
                  ∙ ap (λ (x : Bench). step_record ram here b ++ records_after ram rest x) (sym d.bench));
              lines = omega (arith, g.lines, lines_here, lines_now);
              formed = d.formed;
            }

        -- a refused step ends the run
        pub going_stop : (r : Refusal) → number_of r ≡ step_refusal here → DoesAll s ram script external dots₀ dots₁ records₀ records₁ c (Err (Stopped r place))
        going_stop r e =
            let refused : step_refusal here ≡ 0 → ⊥ = λ z. no_zero r (e ∙ z) in
            let quiet = refused_quiet here refused in
            let none : done (ahead script place) ≡ [] = rw (more, ne_eqb (step_refusal here) 0 refused) in
            let stop : step_refusal here ≡ stop_number (steps_of script) = sym (rw (more, ne_eqb (step_refusal here) 0 refused)) ∙ g.stop in
            let count : place ≡ length (done (steps_of script)) = omega (arith, g.count, ap length none) in
            record {
              ended = rw (e, ← stop, ne_eqb (step_refusal here) 0 refused, ← count) refl;
              bench = d.bench ∙ refused_keeps ram here b refused ∙ sym (ap (λ (l : List Step). bench_after ram l b) none) ∙ g.bench;
              dots = kept_all (dots_now [] (rw (none, quiet)));
              records = kept_all (records_now [] (rw (none, quiet)));
              most = omega (arith, g.lines, lines_here, lines_now);
            }
