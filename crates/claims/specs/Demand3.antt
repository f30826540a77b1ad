-- Demand 3 (document 01, "The direct answer"): over any list of paintings the direct answer is the painted dot, and it depends
-- on few bytes of RAM.
use Rattle.std.specs.Prelude.{Result, ◌≡◌, false, cond, List, [], ◌∷◌, ◌++◌, map, ℕ, ◌+◌, ◌-◌, ◌*◌, ◌≤◌, ◌<◌, eqb, length}
use Rattle.nick.specs.Numbers.{byte_at}
use Rattle.nick.specs.Painting.{Painting, paint, paint_line}
use Rattle.nick.specs.Refusals.{ill_formed}
use Rattle.nick.specs.Direct.{answered, shows, direct, direct_names, direct_shown, depends_on}
use Rattle.nick.specs.declared.State.{State}
use Rattle.nick.specs.declared.Answer.{Answer}
use Rattle.nick.specs.declared.refusal.Refusal.{Refusal}

-- "Demand 3's list holds calls of both paintings, with any height and buffers."
pub data Call : Type 0 where
  one_line : (dots records external : List ℕ) → Call
  lines : (height : ℕ) (dots records external : List ℕ) → Call

abbrev pub height_of : Call → ℕ
height_of (one_line dots records external) = 1
height_of (lines height dots records external) = height

abbrev pub external_of : Call → List ℕ
external_of (one_line dots records external) = external
external_of (lines height dots records external) = external

-- what a call leaves, made from a state
abbrev pub painting_of : State → List ℕ → Call → Painting
painting_of s ram (one_line dots records external) = paint_line s ram dots records external
painting_of s ram (lines height dots records external) = paint s ram height dots records external

-- a call that was made, with what its caller has of it: the refusal, 0 for none, and the two buffers
pub record Made : Type 0 where
  pub call : Call
  pub refusal : ℕ
  pub dots : List ℕ
  pub records : List ℕ

abbrev pub made_of : State → List ℕ → Call → Made
made_of s ram c =
    let p = painting_of s ram c in
    record { call = c; refusal = p.refusal; dots = p.dots; records = p.records }

-- "The first gets the state given, each other the one that the call before it returned, refused or not; nothing else changes
-- it."
abbrev pub run : State → List ℕ → List Call → List Made
run s ram [] = []
run s ram (c ∷ more) = made_of s ram c ∷ run (painting_of s ram c).state ram more

-- "Lines count on from 0 over the list, a refused painting adding none"
abbrev pub lines_of : Made → ℕ
lines_of m = cond (eqb m.refusal 0) (height_of m.call) 0

abbrev pub lines_in : List Made → ℕ
lines_in [] = 0
lines_in (m ∷ more) = lines_of m + lines_in more

-- "a line's place in the buffers is counted from 0 within its own painting": the place of dot x of line y, where b lines were
-- painted before that painting
abbrev pub place_of : ℕ → ℕ → ℕ → ℕ
place_of b y x = 736 * (y - b) + x

-- m is accepted and paints line y of the list, `before` being the calls made before it
pub record PaintsLine (before : List Made) (m : Made) (y : ℕ) : Type 0 where
  pub accepted : m.refusal ≡ 0
  pub first : lines_in before ≤ y
  pub last : y < lines_in before + height_of m.call

-- a dot of the next 1,024 lines, to which refusal 9 does not apply
abbrev pub InReach : ℕ → ℕ → Type 0
InReach y x = (y ≤ 1023) × (x ≤ 735)

-- One dot of the next 1,024 lines is answered: from every well-formed state and every RAM of full length the direct answer is no
-- refusal; it is the rules' colour of line y, dot x, with the rules' addresses. It asks nothing of the registers.
abbrev pub AnsweredDirectly : Type 0
AnsweredDirectly =
    (s : State) (ram : List ℕ) (y x e : ℕ)
    → ill_formed s.scan ≡ false
    → length ram ≡ 65536
    → InReach y x
    → direct s ram y x e ≡ shows (direct_shown s ram y x e)

-- The direct answer is the painted dot: from whatever state and RAM, and whatever calls are made, the painting of line y holds
-- at dot x the colour of the direct answer, which is no refusal and names the rules' addresses.
-- "A dot's external byte is the one lent for it to the painting of its line, 0 if that input is empty. This is a single claim
-- about the list, not one for each call."
abbrev pub Demand3 : Type 0
Demand3 =
    (s : State) (ram : List ℕ) (calls : List Call) (before : List Made) (m : Made) (after : List Made) (y x : ℕ)
    → InReach y x
    → run s ram calls ≡ before ++ (m ∷ after)
    → PaintsLine before m y
    → direct s ram y x (byte_at (external_of m.call) (place_of (lines_in before) y x))
    ≡ shows (record { colour = byte_at m.dots (place_of (lines_in before) y x); names = direct_names s ram y x })

-- Demand 3 speaks of every line: each line that a list paints is the line of one accepted painting in it.
abbrev pub EveryLine : Type 0
EveryLine =
    (all : List Made) (y : ℕ)
    → y < lines_in all
    → (before : List Made) × (m : Made) × (after : List Made) × (all ≡ before ++ (m ∷ after)) × PaintsLine before m y

-- another RAM of the same length, with the same bytes at the addresses that `depends_on` lists
abbrev pub AgreesFor : State → List ℕ → List ℕ → ℕ → ℕ → Type 0
AgreesFor s ram other y x =
    (length other ≡ length ram) × (map (byte_at other) (depends_on s ram y x) ≡ map (byte_at ram) (depends_on s ram y x))

-- The direct answer depends on those bytes and on no others: another RAM that agrees on them gives the same answer.
abbrev pub Dependence : Type 0
Dependence =
    (s : State) (ram other : List ℕ) (y x e : ℕ)
    → AgreesFor s ram other y x
    → direct s other y x e ≡ direct s ram y x e

-- "The same answer means all that is returned": what the two calls return is the same.
abbrev pub SameReturned : Type 0
SameReturned =
    (s : State) (ram other : List ℕ) (y x e : ℕ) (given returned : Result Answer Refusal)
    → AgreesFor s ram other y x
    → answered given ≡ direct s ram y x e
    → answered returned ≡ direct s other y x e
    → returned ≡ given
