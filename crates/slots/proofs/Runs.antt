-- Pixels in runs of dots, as a loop shows them one after another, are a cell's dots in each colour mode.
use Rattle.std.proofs.Common.{◌≡◌, refl, ap, ℕ, zero, suc, ◌+◌, ◌-◌, ◌*◌, ◌%◌, ◌≤◌, Bool, true, false, cond, List, ◌++◌, length, get_or, take, replicate, arith, add-one, ◌∙◌}
use Rattle.std.proofs.lemmas.List.{length-replicate}
use Rattle.std.proofs.lemmas.Slice.{take-put_mid}
use borrow.Rule.Slice.PartMut.{put_mid}
use Rattle.blocks.specs.declared.mode.ColourMode.TheVariants.{Two, Four, Sixteen, All}
use Rattle.colour.specs.Cell.{cell_pixel}
use Rattle.colour.specs.declared.Cell.{Cell}
use Rattle.slots.specs.Shows.{runs, two_shown, four_shown, sixteen_shown, plain_dots}

-- one pixel more is shown in its run
pub runs_more : (c : ℕ → ℕ) (k run : ℕ) (out part : List ℕ)
    → k * run + run ≤ length out
    → part ≡ replicate run (c k)
    → take (k * run) out ≡ runs c k run
    → take ((k + 1) * run) (put_mid (k * run) (k * run + run - k * run) out part) ≡ runs c (k + 1) run
runs_more c k run out part fits filled made =
    let long : (k + 1) * run ≡ k * run + length (replicate run (c k)) = rw length-replicate (omega arith) in
    rw (filled, add-one k)
    (rw add-one at (take-put_mid (k * run) (k * run + run - k * run) out (replicate run (c k)) ((k + 1) * run) long (omega arith))
    ∙ ap (λ (l : List ℕ). l ++ replicate run (c k)) made)

-- the palette's colour of the number that is chosen
entry_of : (palette : List ℕ) (t : Bool) (x y : ℕ) → cond t (get_or palette x 0) (get_or palette y 0) ≡ get_or palette (cond t x y) 0
entry_of palette true x y = refl
entry_of palette false x y = refl

module _ (palette : List ℕ) (cell : Cell) where
  pub two_dots : (run clear set : ℕ)
      → run ≤ 2
      → cell.colours ≡ Two
      → clear ≡ get_or palette (cell.low % 16) 0
      → set ≡ get_or palette (cell.high % 16) 0
      → plain_dots palette cell run ≡ runs (two_shown cell.byte clear set) 8 run
  unfolding plain_dots cell_pixel
  two_dots zero clear set l h e f = refl
  two_dots (suc zero) clear set l h e f = simp (h, e, f, entry_of) refl
  two_dots (suc (suc zero)) clear set l h e f = simp (h, e, f, entry_of) refl
  two_dots (suc (suc (suc n))) clear set l h e f = absurd (omega arith)

  pub four_dots : (run : ℕ) → run ≤ 2 → cell.colours ≡ Four → plain_dots palette cell run ≡ runs (four_shown palette cell.byte) 4 (2 * run)
  unfolding plain_dots cell_pixel
  four_dots zero l h = refl
  four_dots (suc zero) l h = rw h refl
  four_dots (suc (suc zero)) l h = rw h refl
  four_dots (suc (suc (suc n))) l h = absurd (omega arith)

  pub sixteen_dots : (run : ℕ) → run ≤ 2 → cell.colours ≡ Sixteen → plain_dots palette cell run ≡ runs (sixteen_shown palette cell.byte) 2 (4 * run)
  unfolding plain_dots cell_pixel
  sixteen_dots zero l h = refl
  sixteen_dots (suc zero) l h = rw h refl
  sixteen_dots (suc (suc zero)) l h = rw h refl
  sixteen_dots (suc (suc (suc n))) l h = absurd (omega arith)

  pub all_dots : (run : ℕ) → run ≤ 2 → cell.colours ≡ All → plain_dots palette cell run ≡ replicate (8 * run) cell.byte
  unfolding plain_dots cell_pixel
  all_dots zero l h = refl
  all_dots (suc zero) l h = rw h refl
  all_dots (suc (suc zero)) l h = rw h refl
  all_dots (suc (suc (suc n))) l h = absurd (omega arith)
