-- What the direct answer depends on: two RAMs that read alike at those addresses answer alike (laws, ReadAlike).
use mathlib.Core.Path.{◌≡◌, sym, ◌∙◌}
use mathlib.Core.List.{List}
use Prim.Native.Nat.{ℕ, suc}
use lib.ListN.{length}
use Rattle.nick.specs.Blocks.{begun}
use Rattle.nick.specs.Scanline.{scan_after}
use Rattle.nick.specs.Refusals.{direct_refusal}
use Rattle.nick.specs.Direct.{named_in, direct_colour, direct_names, direct, loaded_on_the_way, block_bytes_used, depends_on}
use Rattle.nick.specs.declared.State.{State}
use Rattle.nick.proofs.Determined.{answered_determines}
use Rattle.laws.proofs.ReadAlike.{same_first, same_rest, begun_step, scan_same, same_colour, same_names}
use Rattle.claims.specs.Demand3.{Dependence, SameReturned}

module _ (s : State) (ram other : List ℕ) (y x : ℕ) where
  same_refusal : length other ≡ length ram → direct_refusal s other y x ≡ direct_refusal s ram y x
  unfolding direct_refusal
  same_refusal long = rw long

  same_answer :
      (e : ℕ)
      → direct_refusal s other y x ≡ direct_refusal s ram y x
      → direct_colour s other y x e ≡ direct_colour s ram y x e
      → direct_names s other y x ≡ direct_names s ram y x
      → direct s other y x e ≡ direct s ram y x e
  unfolding direct
  same_answer e refusal colour names = rw (refusal, colour, names)

pub dependence : Dependence
unfolding direct_colour direct_names depends_on
dependence s ram other y x e agrees =
    let g = s.registers in
    let c = scan_after g ram y s.scan in
    let d = scan_after g other y s.scan in
    let loads = loaded_on_the_way g ram (suc y) s.scan in
    let used = same_first ram other (block_bytes_used loads) (named_in ram (begun g ram c) x) agrees.1 in
    let named = same_rest ram other (block_bytes_used loads) (named_in ram (begun g ram c) x) agrees.1 in
    let alike = begun_step ram other g s.scan agrees.0 y (scan_same ram other g s.scan agrees.0 y) used in
    same_answer s ram other y x e
    (same_refusal s ram other y x agrees.0)
    (same_colour ram other g c d alike x named e)
    (same_names ram other g c d alike x named)

pub same_returned : SameReturned
same_returned s ram other y x e given returned agrees a b =
    answered_determines returned given (b ∙ (dependence s ram other y x e agrees ∙ sym a))
