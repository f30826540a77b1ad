-- Demand 3 over the exported calls: claims specs/Demand3 for a list of `nick_paint` and `nick_paint_line` calls on the 32 bytes of
-- a state, and the answer of `nick_dot`.
use Rattle.std.specs.Prelude.{ℕ, ◌≡◌, List, [], ◌∷◌, ◌++◌, length}
use Rattle.nick.specs.Numbers.{byte_at}
use Rattle.nick.specs.Direct.{shows, direct_names}
use Rattle.claims.specs.Demand3.{Call, one_line, lines, external_of, Made, lines_in, place_of, PaintsLine, InReach}
use Rattle.encoding.specs.Encoding.{state_of}
use Rattle.packing.specs.Packed.{packed_answer}
use Rattle.nick_c.specs.Calls.{Bytes, paint_bytes, packed_dot}

-- what a call leaves, made on a state's bytes
abbrev pub bytes_of : List ℕ → List ℕ → Call → Bytes
bytes_of b ram (one_line dots records external) = paint_bytes b ram 1 dots records external
bytes_of b ram (lines height dots records external) = paint_bytes b ram height dots records external

-- the calls one after another, each on the bytes that the one before left
abbrev pub run_bytes : List ℕ → List ℕ → List Call → List Made
run_bytes b ram [] = []
run_bytes b ram (c ∷ more) =
    let p = bytes_of b ram c in
    record { call = c; refusal = p.refusal; dots = p.dots; records = p.records } ∷ run_bytes p.state ram more

-- The answer of `nick_dot`, asked before the first call, is the dot that the painting of line y leaves, with the rules' addresses.
abbrev pub Demand3Bytes : Type 0
Demand3Bytes =
    (b ram : List ℕ) (calls : List Call) (before : List Made) (m : Made) (after : List Made) (y x : ℕ)
    → length b ≡ 32
    → InReach y x
    → run_bytes b ram calls ≡ before ++ (m ∷ after)
    → PaintsLine before m y
    → packed_dot b ram y x (byte_at (external_of m.call) (place_of (lines_in before) y x))
    ≡ packed_answer
    (shows (record { colour = byte_at m.dots (place_of (lines_in before) y x); names = direct_names (state_of b) ram y x }))
