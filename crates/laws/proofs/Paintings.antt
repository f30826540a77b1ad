-- What a painting leaves, accepted or refused.
use mathlib.Core.Path.{◌≡◌, refl, sym}
use mathlib.Core.Bool.{Bool, true, false, cond}
use mathlib.Core.List.{List}
use Prim.Native.Nat.{ℕ}
use native.Mathlib.Decide.{ℕ_discrete}
use lib.Dec.{eqb}
use lib.ListN.{length}
use borrow.Author.Tests.{eqb-true, ne_eqb}
use Rattle.nick.specs.Record.{state_after}
use Rattle.nick.specs.Refusals.{Formed, painting_refusal}
use Rattle.nick.specs.Painting.{Painting, frame_dots, painted, refused_painting, paint}
use Rattle.nick.specs.declared.State.{State}
use Rattle.nick.proofs.Refusals.{accepted}

-- what p, a painting of h lines from s, leaves: the state after the lines that it paints, none where it is refused; where it is
-- accepted, their dots, the state being well-formed and RAM whole
pub record Leaves (s : State) (ram : List ℕ) (h : ℕ) (external : List ℕ) (p : Painting) : Type 0 where
  pub state : p.state ≡ state_after ram (cond (eqb p.refusal 0) h 0) s
  pub dots : p.refusal ≡ 0 → p.dots ≡ frame_dots ram external h s
  pub formed : p.refusal ≡ 0 → Formed s.scan
  pub full : p.refusal ≡ 0 → length ram ≡ 65536

module _ (s : State) (ram : List ℕ) (h : ℕ) (dots records external : List ℕ) where
  -- the number that the table gives
  abbrev given : ℕ
  given = painting_refusal s ram h dots records external

  pub refusal_is : (paint s ram h dots records external).refusal ≡ given
  unfolding paint painted refused_painting
  refusal_is = go given (eqb given 0) refl
    where
      go :
          (n : ℕ) (t : Bool)
          → eqb n 0 ≡ t
          → (cond t (painted s ram h external) (refused_painting n s dots records)).refusal ≡ n
      go n true e = sym (eqb-true n 0 e)
      go n false e = refl

  pub accepted_is : given ≡ 0 → paint s ram h dots records external ≡ painted s ram h external
  unfolding paint
  accepted_is e = rw e

  pub refused_is : (given ≡ 0 → ⊥) → paint s ram h dots records external ≡ refused_painting given s dots records
  unfolding paint
  refused_is e = rw (ne_eqb given 0 e)

  accepted_leaves : given ≡ 0 → Leaves s ram h external (painted s ram h external)
  unfolding painted
  accepted_leaves e = record {
    state = refl;
    dots = λ _. refl;
    formed = λ _. (accepted s ram h dots records external e).formed;
    full = λ _. (accepted s ram h dots records external e).full;
  }

  refused_leaves : (n : ℕ) → (n ≡ 0 → ⊥) → Leaves s ram h external (refused_painting n s dots records)
  unfolding refused_painting
  refused_leaves n e = record {
    state = rw (ne_eqb n 0 e);
    dots = λ q. absurd (e q);
    formed = λ q. absurd (e q);
    full = λ q. absurd (e q);
  }

  pub paint_leaves : Leaves s ram h external (paint s ram h dots records external)
  paint_leaves = go (ℕ_discrete given 0)
    where
      go : Dec (given ≡ 0) → Leaves s ram h external (paint s ram h dots records external)
      go (yes e) = rw (accepted_is e) (accepted_leaves e)
      go (no e) = rw (refused_is e) (refused_leaves given e)
