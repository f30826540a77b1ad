-- Demand 3 over the exported calls: the bytes that a call leaves hold the rules' state, so the calls leave what the rules' own
-- list leaves, and the theorem on that list is theirs.
use mathlib.Core.Path.{◌≡◌, refl, sym, ap, ◌∙◌}
use mathlib.Core.Bool.{Bool, true, false, cond}
use mathlib.Core.List.{List, [], ◌∷◌}
use Prim.Native.Nat.{ℕ}
use borrow.Author.Tests.{eq-eqb}
use lib.Dec.{eqb}
use lib.ListN.{length}
use Rattle.nick.specs.Record.{state_after}
use Rattle.nick.specs.Painting.{Painting, paint}
use Rattle.claims.specs.Demand3.{Call, one_line, lines, painting_of, run}
use Rattle.laws.proofs.Paintings.{paint_leaves}
use Rattle.claims.proofs.Demand3.{demand3}
use Rattle.encoding.specs.Encoding.{encoded, state_of}
use Rattle.packing.specs.Packed.{packed_answer}
use Rattle.nick_c.specs.Calls.{Bytes, paint_bytes, packed_dot}
use Rattle.nick_c.specs.Demand3.{bytes_of, run_bytes, Demand3Bytes}
use Rattle.nick_c.proofs.Chains.{paint_chains}

-- what a call leaves in bytes is what the rules leave, and its state again has 32 bytes
record Leaves (left : Bytes) (p : Painting) : Type 0 where
  refusal : left.refusal ≡ p.refusal
  dots : left.dots ≡ p.dots
  records : left.records ≡ p.records
  whole : length left.state ≡ 32
  state : state_of left.state ≡ p.state

module _ (b ram : List ℕ) (whole : length b ≡ 32) where
  module _ (h : ℕ) (dots records external : List ℕ) where
    abbrev p : Painting
    p = paint (state_of b) ram h dots records external

    state_held :
        (t : Bool) → p.state ≡ state_after ram (cond t h 0) (state_of b)
        → (length (cond t (encoded p.state) b) ≡ 32) × (state_of (cond t (encoded p.state) b) ≡ p.state)
    unfolding encoded
    state_held true e = (refl, paint_chains b ram h dots records external)
    state_held false e = (whole, sym e)

    paint_bytes_leave : Leaves (paint_bytes b ram h dots records external) p
    unfolding paint_bytes
    paint_bytes_leave =
        let (long, same) =
        state_held (eqb p.refusal 0) (paint_leaves (state_of b) ram h dots records external).state in
        rw (eq-eqb (length b) 32 whole)
        (record { refusal = refl; dots = refl; records = refl; whole = long; state = same })

  bytes_leave : (c : Call) → Leaves (bytes_of b ram c) (painting_of (state_of b) ram c)
  bytes_leave (one_line dots records external) = paint_bytes_leave 1 dots records external
  bytes_leave (lines height dots records external) = paint_bytes_leave height dots records external

same_run : (b ram : List ℕ) (calls : List Call) → length b ≡ 32 → run_bytes b ram calls ≡ run (state_of b) ram calls
same_run b ram [] whole = refl
same_run b ram (c ∷ more) whole =
    let l = bytes_leave b ram whole c in
    rw (l.refusal, l.dots, l.records, same_run (bytes_of b ram c).state ram more l.whole, l.state)

pub demand3_bytes : Demand3Bytes
unfolding packed_dot
demand3_bytes b ram calls before m after y x whole reach e p =
    rw (eq-eqb (length b) 32 whole)
    (ap packed_answer (demand3 (state_of b) ram calls before m after y x reach (sym (same_run b ram calls whole) ∙ e) p))
