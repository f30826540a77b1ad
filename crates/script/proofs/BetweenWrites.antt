-- Between two port writes the direct answer is the painted dot, and a painting step is never refused.
use mathlib.Core.Path.{◌≡◌, refl, sym, ap, ◌∙◌}
use mathlib.Core.Bool.{Bool, true, false, not, cond, ◌||◌}
use mathlib.Core.List.{List, [], ◌∷◌, ◌++◌, append_assoc}
use Prim.Native.Nat.{ℕ, ◌+◌, ◌-◌, ◌*◌, ◌<◌, ◌≤◌, min}
use native.Mathlib.Nat.{zero-add}
use native.Mathlib.Omega.{arith}
use lib.Dec.{eqb, ltb}
use lib.ListN.{length, get_or, take, drop, length-take, length-drop, get_or-append}
use lib.Seq.{get_or-append-add, get_or-take, get_or-drop}
use borrow.Author.Tests.{eq-eqb, eqb-true, not-false}
use Rattle.lists.specs.Number.{number}
use Rattle.lists.proofs.Tests.{or_first, or_rest}
use Rattle.nick.specs.Sizes.{record_bytes}
use Rattle.nick.specs.Numbers.{byte_at, Bytes}
use Rattle.nick.specs.Scanline.{line_dots}
use Rattle.nick.specs.Refusals.{bad_height, bad_external, Accepted}
use Rattle.nick.specs.Painting.{external_at, painted}
use Rattle.nick.specs.Direct.{shows, direct_colour, direct_names}
use Rattle.nick.specs.declared.State.{State}
use Rattle.nick.proofs.Refusals.{external_fits, painting_lines}
use Rattle.nick.proofs.WellFormed.{not_ill_formed}
use Rattle.laws.proofs.Paintings.{accepted_is}
use Rattle.painting.proofs.LinesTable.{not_refused}
use Rattle.painting.proofs.OwnLine.{lines_same}
use Rattle.claims.proofs.Demand3.{frame_direct, answered_directly}
use Rattle.script.specs.Steps.{Step, paints, steps_of, is_paint, lines_in, step_refusal, begins, after}
use Rattle.script.specs.Runs.{done, bench_after, dots_after, ran, run}
use Rattle.script.specs.Stretches.{is_write, Reaches, BetweenWrites, NeverRefused, any_of}
use Rattle.script.specs.declared.Bench.{Bench}
use Rattle.script.proofs.RunTable.{table_none, run_accepted, ran_is}
use Rattle.script.proofs.InOrder.{done_append, done_first, onward, dots_append, lines_append, bench_lines, length_dots}
use Rattle.script.proofs.PaintingAlone.{as_frame}
use Rattle.script.proofs.Sound.{Sound, small_steps, small_first, steps_sound, is_big}

-- no more lines are painted than asked for, and no write is done that is not there
lines_done : (steps : List Step) → lines_in (done steps) ≤ lines_in steps
lines_done [] = omega arith
lines_done (step ∷ more) = go (eqb (step_refusal step) 0) (lines_done more)
  where
    go :
        (t : Bool)
        → lines_in (done more) ≤ lines_in more
        → lines_in (cond t (step ∷ done more) []) ≤ number (is_paint step) + lines_in more
    go true ih = omega (arith, ih)
    go false ih = omega arith

no_writes_done : (steps : List Step) → any_of is_write steps ≡ false → any_of is_write (done steps) ≡ false
no_writes_done [] e = refl
no_writes_done (step ∷ more) e = go (eqb (step_refusal step) 0) (no_writes_done more (or_rest (is_write step) (any_of is_write more) e))
  where
    go : (t : Bool) → any_of is_write (done more) ≡ false → any_of is_write (cond t (step ∷ done more) []) ≡ false
    go true ih = rw (or_first (is_write step) (any_of is_write more) e, ih)
    go false ih = refl

-- a place in the second of four parts
middle :
    (p q r t : List ℕ) (i j : ℕ) → i ≡ length p + j → j < length q → get_or ((p ++ (q ++ r)) ++ t) i 0 ≡ get_or q j 0
middle p q r t i j e h =
    rw (e, append_assoc p (q ++ r) t, append_assoc q r t)
    (get_or-append-add p (q ++ (r ++ t)) j 0 ∙ get_or-append q (r ++ t) 0 j h)

module _ (s : State) (ram script dots records external : List ℕ) (before stretch rest : List Step)
    (reach : Reaches s ram script dots records external before stretch rest) where
  -- the bench as the stretch begins
  abbrev here : Bench
  here = bench_after ram before (begins s)

  fits : Accepted s ram (lines_in (steps_of script)) dots records
  fits = run_accepted s ram script dots records external reach.begun

  here_lines : here.lines ≡ lines_in before
  here_lines = bench_lines ram before (begins s) ∙ zero-add (lines_in before)

  all_lines : lines_in (steps_of script) ≡ lines_in before + (lines_in stretch + lines_in rest)
  all_lines = ap lines_in reach.parts ∙ lines_append before (stretch ++ rest) ∙ ap (λ (n : ℕ). lines_in before + n) (lines_append stretch rest)

  here_sound : s.registers.lpl < 256 → Bytes script → Sound here.state
  here_sound low bytes =
      let small = ap (any_of is_big) (sym reach.parts) ∙ small_steps script bytes in
      steps_sound ram before (begins s) (small_first before (stretch ++ rest) small) (record { low = low; formed = fits.formed })

  -- what is painted before the stretch, in it, and after it
  abbrev was : List ℕ
  was = dots_after ram external before (begins s)

  abbrev own : List ℕ
  own = dots_after ram external (done stretch) here

  abbrev next : List ℕ
  next = dots_after ram external (onward stretch rest) (bench_after ram (done stretch) here)

  steps_done : done (steps_of script) ≡ before ++ (done stretch ++ onward stretch rest)
  steps_done =
      ap done reach.parts
      ∙ done_append before (stretch ++ rest) reach.goes_on
      ∙ ap (λ (l : List Step). before ++ l) (done_first stretch rest)

  all_dots : dots_after ram external (done (steps_of script)) (begins s) ≡ was ++ (own ++ next)
  all_dots =
      ap (λ (l : List Step). dots_after ram external l (begins s)) steps_done
      ∙ dots_append ram external before (done stretch ++ onward stretch rest) (begins s)
      ∙ ap (λ (l : List ℕ). was ++ l) (dots_append ram external (done stretch) (onward stretch rest) here)

  -- dot x of line y of the stretch, in the buffer
  own_dot :
      (y x : ℕ) → y < lines_in (done stretch) → x < 736
      → byte_at (run s ram script dots records external).dots (736 * (here.lines + y) + x) ≡ byte_at own (736 * y + x)
  unfolding ran
  own_dot y x line dot =
      let places : 736 * (here.lines + y) + x ≡ length was + (736 * y + x) =
      rw (here_lines, length_dots ram external before (begins s)) (omega arith) in
      let inside : 736 * y + x < length own = rw (length_dots ram external (done stretch) here) (omega (arith, line, dot)) in
      rw (ran_is s ram script dots records external reach.begun, all_dots)
      (middle was own next _ (736 * (here.lines + y) + x) (736 * y + x) places inside)

  module _ (none : any_of is_write stretch ≡ false) (y x : ℕ) (line : y < lines_in (done stretch)) (dot : x < 736) where
    -- it is the direct answer's colour, from the bench as the stretch begins
    own_colour : byte_at own (736 * y + x) ≡ direct_colour here.state ram y x (external_at external (here.lines + y) x)
    own_colour =
        let frame = as_frame ram external (done stretch) here (no_writes_done stretch none) in
        let later = drop (736 * here.lines) external in
        let place : 736 * here.lines + (736 * y + x) ≡ 736 * (here.lines + y) + x = omega arith in
        ap (λ (l : List ℕ). byte_at l (736 * y + x)) frame.dots
        ∙ frame_direct here.state ram later 0 (lines_in (done stretch)) y x line dot
        ∙ ap (λ (n : ℕ). direct_colour here.state ram n x (byte_at later (736 * y + x))) (zero-add y)
        ∙ ap (direct_colour here.state ram y x)
        (get_or-drop (736 * here.lines) external (736 * y + x) 0 ∙ ap (byte_at external) place)

    in_reach : y ≤ 1023
    in_reach = omega (arith, fits.height, all_lines, lines_done stretch, line)

pub between_writes : BetweenWrites
between_writes s ram script dots records external before stretch rest y x low bytes reach none line dot =
    let b = here s ram script dots records external before stretch rest reach in
    let inside : x < 736 = omega (arith, dot) in
    let e = external_at external (b.lines + y) x in
    let sound = here_sound s ram script dots records external before stretch rest reach low bytes in
    let shown = own_dot s ram script dots records external before stretch rest reach y x line inside
    ∙ own_colour s ram script dots records external before stretch rest reach none y x line inside in
    answered_directly b.state ram y x e (not_ill_formed b.state.scan sound.formed)
    (fits s ram script dots records external before stretch rest reach).full
    (in_reach s ram script dots records external before stretch rest reach none y x line inside, dot)
    ∙ ap (λ (k : ℕ). shows (record { colour = k; names = direct_names b.state ram y x })) (sym shown)

-- external input that fits h lines gives each of them nothing, or a byte for each of its dots
part_fits :
    (external : List ℕ) (h y : ℕ) → y < h → bad_external h external ≡ false
    → bad_external 1 (take 736 (drop (736 * y) external)) ≡ false
part_fits external h y l e = go (eqb (length external) 0) refl (not-false (eqb (length external) 0 || eqb (length external) (736 * h)) e)
  where
    size : length (take 736 (drop (736 * y) external)) ≡ min 736 (length external - 736 * y)
    size = length-take 736 (drop (736 * y) external) ∙ ap (min 736) (length-drop (736 * y) external)

    go :
        (t : Bool)
        → eqb (length external) 0 ≡ t
        → t || eqb (length external) (736 * h) ≡ true
        → bad_external 1 (take 736 (drop (736 * y) external)) ≡ false
    go true z whole =
        let none : length (take 736 (drop (736 * y) external)) ≡ 0 = size ∙ omega (arith, eqb-true (length external) 0 z) in
        rw none
    go false z whole =
        let all : length (take 736 (drop (736 * y) external)) ≡ 736 =
        size ∙ omega (arith, eqb-true (length external) (736 * h) whole, l) in
        rw all

-- the dots of a line, with its own part of the external input
part_line :
    (ram external : List ℕ) (s : State) (y : ℕ)
    → line_dots s.registers ram s.scan (external_at (take 736 (drop (736 * y) external)) 0)
    ≡ line_dots s.registers ram s.scan (external_at external y)
part_line ram external s y =
    lines_same s.registers ram s.scan _ _
    (λ x h. rw (zero-add x) (get_or-take 736 (drop (736 * y) external) x 0 h ∙ get_or-drop (736 * y) external x 0))

pub never_refused : NeverRefused
unfolding after painted
never_refused s ram script dots records external newDots newRecords before rest low bytes reach places size =
    let stretch = paints ∷ [] in
    let b = here s ram script dots records external before stretch rest reach in
    let part = take 736 (drop (736 * b.lines) external) in
    let ok = fits s ram script dots records external before stretch rest reach in
    let sound = here_sound s ram script dots records external before stretch rest reach low bytes in
    let asked = lines_in (steps_of script) in
    let inside : b.lines < asked =
    omega (
      arith,
      here_lines s ram script dots records external before stretch rest reach,
      all_lines s ram script dots records external before stretch rest reach,
    ) in
    let outside = external_fits (ltb 1024 asked) s ram asked dots records external (table_none s ram script dots records external reach.begun) in
    let z = not_refused (bad_height 1) b.state ram 1 newDots newRecords part (not_ill_formed b.state.scan sound.formed)
    (ap not (eq-eqb (length ram) 65536 ok.full)) refl (ap not (eq-eqb (length newDots) 736 places))
    (ap not (eq-eqb (length newRecords) record_bytes size)) (part_fits external asked b.lines inside outside) in
    accepted_is b.state ram 1 newDots newRecords part (painting_lines b.state ram 1 newDots newRecords part ∙ sym z) ∙ rw (part_line ram external b.state b.lines)
