-- Demand 3: by induction over the calls before, the painting of line y starts from the state after the lines painted so far;
-- the rest is that painting's own line.
use mathlib.Core.Path.{◌≡◌, refl, sym, ap, ◌∙◌}
use mathlib.Core.Bool.{Bool, true, false, cond}
use mathlib.Core.List.{List, [], ◌∷◌, ◌++◌}
use Prim.Native.Nat.{ℕ, ◌+◌, ◌-◌, ◌*◌, ◌<◌}
use native.Mathlib.Nat.{not-suc-le-zero}
use native.Mathlib.Decide.{dec_lt}
use native.Mathlib.Omega.{arith}
use lib.Dec.{eqb}
use lib.ListN.{length}
use borrow.Author.Tests.{eqb-true, eq-eqb, le-ltb}
use Rattle.nick.specs.Numbers.{byte_at}
use Rattle.nick.specs.Scanline.{scan_after}
use Rattle.nick.specs.Record.{state_after}
use Rattle.nick.specs.Refusals.{Formed, direct_refusal}
use Rattle.nick.specs.Painting.{Painting, external_at, frame_dots}
use Rattle.nick.specs.Direct.{shows, direct, direct_colour, direct_names}
use Rattle.nick.specs.declared.State.{State}
use Rattle.nick.proofs.WellFormed.{not_ill_formed}
use Rattle.claims.specs.Demand3.{Call, one_line, lines, height_of, external_of, painting_of, Made, made_of, run, lines_of, lines_in, place_of, PaintsLine, AnsweredDirectly, Demand3, EveryLine}
use Rattle.laws.proofs.StatesAfter.{scan_add, state_add, registers_kept, scan_of_state}
use Rattle.laws.proofs.LineDots.{own_external}
use Rattle.laws.proofs.Frames.{frame_dot}
use Rattle.laws.proofs.Paintings.{Leaves, paint_leaves}

call_leaves : (s : State) (ram : List ℕ) (c : Call) → Leaves s ram (height_of c) (external_of c) (painting_of s ram c)
call_leaves s ram (one_line dots records external) = paint_leaves s ram 1 dots records external
call_leaves s ram (lines height dots records external) = paint_leaves s ram height dots records external

-- m is made from the state after b lines; if m is accepted, the first state was well-formed, since from any other every call is
-- refused
record MadeAfter (s : State) (ram : List ℕ) (b : ℕ) (m : Made) : Type 0 where
  made : m ≡ made_of (state_after ram b s) ram m.call
  formed : m.refusal ≡ 0 → Formed s.scan

-- the state before a call was well-formed, if the one that it returned is
formed_before :
    (s : State) (ram : List ℕ) (h : ℕ) (external : List ℕ) (p : Painting)
    → Leaves s ram h external p
    → Formed p.state.scan
    → Formed s.scan
formed_before s ram h external p l e = go (eqb p.refusal 0) refl l.state
  where
    go : (t : Bool) → eqb p.refusal 0 ≡ t → p.state ≡ state_after ram (cond t h 0) s → Formed s.scan
    go true accepted same = l.formed (eqb-true p.refusal 0 accepted)
    go false refused same = rw same at e

-- k lines more before
later :
    (s t : State) (ram : List ℕ) (k b : ℕ) (m : Made)
    → t ≡ state_after ram k s
    → (Formed t.scan → Formed s.scan)
    → MadeAfter t ram b m
    → MadeAfter s ram (k + b) m
later s t ram k b m e f r = record {
  made = rw (state_add ram k b s, ← e) r.made;
  formed = λ q. f (r.formed q);
}

made_after :
    (s : State) (ram : List ℕ) (calls : List Call) (before : List Made) (m : Made) (after : List Made)
    → run s ram calls ≡ before ++ (m ∷ after)
    → MadeAfter s ram (lines_in before) m
made_after s ram [] [] m after e = absurd (omega (arith, ap length e))
made_after s ram [] (d ∷ before) m after e = absurd (omega (arith, ap length e))
made_after s ram (c ∷ calls) [] m after e =
    let first : made_of s ram c ≡ m = cc in
    rw (← first) (record { made = refl; formed = (call_leaves s ram c).formed })
made_after s ram (c ∷ calls) (d ∷ before) m after e =
    let p = painting_of s ram c in
    let first : made_of s ram c ≡ d = cc in
    let rest : run p.state ram calls ≡ before ++ (m ∷ after) = cc in
    let l = call_leaves s ram c in
    rw (← first)
    (later s p.state ram (lines_of (made_of s ram c)) (lines_in before) m l.state
    (formed_before s ram (height_of c) (external_of c) p l)
    (made_after p.state ram calls before m after rest))

-- line i of a painting that starts after b lines is line b + i of the rules
pub frame_direct :
    (s : State) (ram external : List ℕ) (b h i x : ℕ) → i < h → x < 736
    → byte_at (frame_dots ram external h (state_after ram b s)) (736 * i + x)
    ≡ direct_colour s ram (b + i) x (byte_at external (736 * i + x))
unfolding direct_colour
frame_direct s ram external b h i x l k =
    frame_dot ram external (state_after ram b s) h i x l k
    ∙ rw (registers_kept ram b s, scan_of_state ram b s, ← scan_add s.registers ram b i s.scan)
    (own_external s.registers ram (scan_after s.registers ram (b + i) s.scan) (external_at external i) x k)

pub answered_directly : AnsweredDirectly
unfolding direct direct_refusal
answered_directly s ram y x e formed full reach =
    rw (formed, eq-eqb (length ram) 65536 full, le-ltb 1023 y reach.0, le-ltb 735 x reach.1)

pub demand3 : Demand3
demand3 s ram calls before m after y x reach e p =
    let b = lines_in before in
    let t = state_after ram b s in
    let h = height_of m.call in
    let external = external_of m.call in
    let place = place_of b y x in
    let r = made_after s ram calls before m after e in
    let l = call_leaves t ram m.call in
    let accepted : (painting_of t ram m.call).refusal ≡ 0 = rw r.made at p.accepted in
    let line : b + (y - b) ≡ y = omega (arith, p.first) in
    let dot : byte_at m.dots place ≡ direct_colour s ram y x (byte_at external place) =
    rw (r.made, l.dots accepted)
    (frame_direct s ram external b h (y - b) x (omega (arith, p.last, p.first)) (omega (arith, reach.1))
    ∙ ap (λ (n : ℕ). direct_colour s ram n x (byte_at external place)) line) in
    answered_directly s ram y x (byte_at external place) (not_ill_formed s.scan (r.formed p.accepted)) (l.full accepted) reach
    ∙ ap (λ (k : ℕ). shows (record { colour = k; names = direct_names s ram y x })) (sym dot)

-- a painting that adds a line is accepted
adds_line : (m : Made) (y : ℕ) → y < lines_of m → PaintsLine [] m y
adds_line m y = go (eqb m.refusal 0) refl
  where
    go : (t : Bool) → eqb m.refusal 0 ≡ t → y < cond t (height_of m.call) 0 → PaintsLine [] m y
    go true e h = record { accepted = eqb-true m.refusal 0 e; first = omega arith; last = omega arith }
    go false e h = absurd (not-suc-le-zero h)

pub every_line : EveryLine
every_line [] y h = absurd (not-suc-le-zero h)
every_line (m ∷ more) y h = go (λ k. every_line more (y - lines_of m) k) (dec_lt y (lines_of m))
  where
    go :
        (y - lines_of m < lines_in more
        → (before : List Made) × (c : Made) × (after : List Made) × (more ≡ before ++ (c ∷ after))
        × PaintsLine before c (y - lines_of m))
        → Dec (y < lines_of m)
        → (before : List Made) × (c : Made) × (after : List Made) × (m ∷ more ≡ before ++ (c ∷ after)) × PaintsLine before c y
    go ih (yes l) = ([], m, more, refl, adds_line m y l)
    go ih (no l) =
        let (before, c, after, e, p) = ih (omega arith) in (
          m ∷ before,
          c,
          after,
          ap (λ (l : List Made). m ∷ l) e,
          record { accepted = p.accepted; first = omega (arith, p.first); last = omega (arith, p.last) },
        )
