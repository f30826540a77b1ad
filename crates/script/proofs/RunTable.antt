-- When a run is refused before its first step, and what it leaves by that.
use mathlib.Core.Path.{◌≡◌, refl, sym, ap, ◌∙◌}
use mathlib.Core.Bool.{Bool, true, false, cond}
use mathlib.Core.List.{List, [], ◌++◌, append-nil}
use Prim.Native.Nat.{ℕ, ◌-◌, ◌≤◌}
use native.Mathlib.Omega.{arith}
use lib.Dec.{eqb, ltb}
use lib.ListN.{length, take, drop, replicate, length-take, length-drop, drop_of_length-le}
use borrow.Rule.Slice.PartMut.{put_mid}
use borrow.Author.Tests.{eqb-true, ltb-false, ne_eqb}
use Rattle.std.specs.Prelude.{Err}
use Rattle.nick.specs.Refusals.{lines_refusal, Accepted, number_of}
use Rattle.nick.specs.declared.refusal.Refusal.{Refusal}
use Rattle.nick.specs.declared.State.{State}
use Rattle.nick.proofs.Refusals.{accepted_lines}
use Rattle.script.specs.Steps.{steps_of, lines_in, begins}
use Rattle.script.specs.Runs.{half_step, run_refusal, refused_run, ran, run}
use Rattle.script.specs.Answers.{Steps}
use Rattle.script.specs.declared.Failure.TheVariants.{Refused}
use Rattle.painting.proofs.Numbers.{no_zero}

module _ (s : State) (ram script dots records external : List ℕ) where
  -- the lines that the script asks for, and the number that the table of paintings gives for them
  abbrev pub asked : ℕ
  asked = lines_in (steps_of script)

  abbrev pub from_table : ℕ
  from_table = lines_refusal (ltb 1024 asked) s ram asked dots records external

  abbrev pub given : ℕ
  given = run_refusal s ram script dots records external

  -- of a script of whole steps the table alone decides
  pub whole_refusal : half_step script ≡ false → given ≡ from_table
  unfolding run_refusal
  whole_refusal h = rw h (go (eqb from_table 0) refl)
    where
      go : (t : Bool) → eqb from_table 0 ≡ t → cond t 0 from_table ≡ from_table
      go true e = sym (eqb-true from_table 0 e)
      go false e = refl

  -- a run that is not refused was not refused by the table
  pub table_none : given ≡ 0 → from_table ≡ 0
  unfolding run_refusal
  table_none = go (eqb from_table 0) refl
    where
      go : (t : Bool) → eqb from_table 0 ≡ t → cond t (cond (half_step script) 19 0) from_table ≡ 0 → from_table ≡ 0
      go true h e = eqb-true from_table 0 h
      go false h e = e

  pub run_accepted : given ≡ 0 → Accepted s ram asked dots records
  run_accepted e =
      accepted_lines (ltb 1024 asked) s ram asked dots records external (λ h. ltb-false 1024 asked h) (table_none e)

  pub ran_is : given ≡ 0 → run s ram script dots records external ≡ ran s ram script dots records external
  unfolding run
  ran_is e = rw e

  pub refused_run_is : (given ≡ 0 → ⊥) → run s ram script dots records external ≡ refused_run given s dots records
  unfolding run
  refused_run_is r = rw (ne_eqb given 0 r)

module _ {s : State} {ram script dots records external : List ℕ} where
  -- a run refused before its first step keeps the state and the dots, and paints no record
  pub steps_refused :
      {r : Refusal} → number_of r ≡ given s ram script dots records external
      → Steps s ram script dots records external dots records (begins s) (Err (Refused r))
  unfolding refused_run
  steps_refused {r} e =
      let is = refused_run_is s ram script dots records external (λ z. no_zero r (e ∙ z)) in
      record { ended = rw (is, e); bench = rw is; request = rw is; dots = rw is; records = rw is (ap (λ (k : ℕ). replicate k 255) (omega arith)); inside = omega arith }

-- the records of the lines that are not painted are stamped
pub stamped_rest : (n k : ℕ) (records rest : List ℕ) → n ≤ length records → k ≡ length records - n
    → rest ≡ replicate (length (take k (drop n records))) 255
    → put_mid n k records rest ≡ take n records ++ replicate (length records - n) 255
stamped_rest n k records rest inside e filled =
    let size : length (take k (drop n records)) ≡ length records - n = length-take k (drop n records) ∙ rw (length-drop n records) (omega arith) in
    let none : drop k (drop n records) ≡ [] = drop_of_length-le (drop n records) (rw (length-drop n records) (omega arith)) in
    rw (filled, size, none) (ap (λ (l : List ℕ). take n records ++ l) (append-nil (replicate (length records - n) 255)))
