-- Laws on the direct answer as a whole: a dot shown from the bytes at its addresses is the rules' dot, and the refusals.
use mathlib.Core.Path.{◌≡◌, ap, sym, refl, ◌∙◌}
use mathlib.Core.Bool.{Bool, true, false, cond}
use mathlib.Core.List.{List, [], ◌∷◌, map}
use Prim.Native.Nat.{ℕ, ◌/◌, ◌%◌, ◌≤◌, ◌<◌}
use native.Mathlib.Omega.{arith}
use borrow.Author.Tests.{ne_eqb}
use Rattle.nick.specs.Numbers.{byte_at}
use Rattle.nick.specs.Blocks.{begun}
use Rattle.nick.specs.Slots.{Mode, VSYNC, PIXEL, ATTR, CH, UNUSED, LPIXEL, mode_of, dot_addresses}
use Rattle.nick.specs.Colour.{colours_of, dot_in}
use Rattle.nick.specs.External.{dot_colour, mixed_colour}
use Rattle.nick.specs.Scanline.{active_at, pointers_after, scan_after}
use Rattle.nick.specs.Sync.{syncs}
use Rattle.nick.specs.Refusals.{direct_refusal}
use Rattle.nick.specs.Direct.{shows, refused, direct_colour, direct_names, direct}
use Rattle.nick.specs.declared.Registers.{Registers}
use Rattle.nick.specs.declared.Pointers.{Pointers}
use Rattle.nick.specs.declared.Block.{Block}
use Rattle.nick.specs.declared.Scan.{Scan}
use Rattle.nick.specs.declared.Pixel.{Pixel}
use Rattle.nick.specs.declared.State.{State}
use Rattle.laws.proofs.LineDots.{line_dot}
use Rattle.colour.specs.Cell.{cell_pixel}
use Rattle.fetch.proofs.SlotDots.{pixel_dot, mode_dot}
use Rattle.direct.specs.DotFromBytes.{cell_from, eighth_of, byte_colour, sourced_colour, dot_answer}

module _
    (g : Registers) (ram : List ℕ) (b : Block) (p : Pointers) (j e : ℕ)
    (inside : j < 16) (low : byte_at ram p.ld1 < 256) where
  -- what a dot's bytes show, by the mode
  abbrev shown_by : Mode → List ℕ → ℕ
  shown_by m [] = cond (syncs m) 0 g.border
  shown_by m (first ∷ []) = mixed_colour g b (cell_pixel (cell_from m b first 0) (eighth_of m j)) e
  shown_by m (first ∷ second ∷ more) = mixed_colour g b (cell_pixel (cell_from m b first second) (eighth_of m j)) e

  shown_is : (bytes : List ℕ) → sourced_colour g b bytes j e ≡ shown_by (mode_of b) bytes
  unfolding byte_colour
  shown_is [] = refl
  shown_is (first ∷ []) = refl
  shown_is (first ∷ second ∷ more) = refl

  by_mode :
      (active : Bool) (m : Mode)
      → shown_by m (map (byte_at ram) (cond active (dot_addresses m ram p j) []))
      ≡ dot_colour g b (dot_in m active b (colours_of b) (map (byte_at ram) (dot_addresses m ram p j)) j) e
  by_mode false VSYNC = refl
  by_mode false PIXEL = refl
  by_mode false ATTR = refl
  by_mode false (CH width) = refl
  by_mode false UNUSED = refl
  by_mode false LPIXEL = refl
  by_mode true VSYNC = refl
  by_mode true PIXEL = ap (λ (q : Pixel). mixed_colour g b q e) (sym (pixel_dot g ram b p j inside)) ∙ mode_dot g ram b p true PIXEL j e inside low
  by_mode true ATTR = mode_dot g ram b p true ATTR j e inside low
  by_mode true (CH width) = mode_dot g ram b p true (CH width) j e inside low
  by_mode true UNUSED = refl
  by_mode true LPIXEL = mode_dot g ram b p true LPIXEL j e inside low

-- the addresses at a dot's slot, and the colour of the bytes there, are the rules' answer
pub slot_answer :
    (g : Registers) (ram : List ℕ) (c : Scan) (x e k : ℕ) (p : Pointers) (named : List ℕ)
    → byte_at ram p.ld1 < 256
    → p ≡ pointers_after c.block (x / 16) c.at
    → named ≡ cond (active_at c.block (x / 16)) (dot_addresses (mode_of c.block) ram p (x % 16)) []
    → k ≡ sourced_colour g c.block (map (byte_at ram) named) (x % 16) e
    → shows (record { colour = k; names = named }) ≡ dot_answer g ram c x e
unfolding dot_answer
slot_answer g ram c x e k p named l q hn hk =
    let b = c.block in
    let active = active_at b (x / 16) in
    let inside : x % 16 < 16 = omega arith in
    let shown = shown_is g ram b p (x % 16) e inside l (map (byte_at ram) (cond active (dot_addresses (mode_of b) ram p (x % 16)) [])) in
    rw (hk, hn, shown, by_mode g ram b p (x % 16) e inside l active (mode_of b), q)

module _ (s : State) (ram : List ℕ) (y x e n : ℕ) (given : n ≡ direct_refusal s ram y x) where
  -- a refused answer
  pub direct_refused : (n ≡ 0 → ⊥) → refused n ≡ direct s ram y x e
  unfolding direct
  direct_refused h = rw (← given, ne_eqb n 0 h)

  -- one that is not refused
  pub direct_answered :
      (d : Scan)
      → n ≡ 0
      → x ≤ 735
      → d ≡ begun s.registers ram (scan_after s.registers ram y s.scan)
      → dot_answer s.registers ram d x e ≡ direct s ram y x e
  unfolding direct direct_colour direct_names dot_answer
  direct_answered d none h begins =
      let g = s.registers in
      rw (begins, ← given, none, line_dot g ram (scan_after g ram y s.scan) (λ _. e) x (omega arith))
