-- The 46 slots of a scanline: how many dots they hold, and what a single dot is.
use mathlib.Core.Path.{◌≡◌, refl, sym, ap, ◌∙◌}
use mathlib.Core.List.{List}
use Prim.Native.Nat.{ℕ, zero, suc, ◌+◌, ◌*◌, ◌/◌, ◌%◌, ◌<◌}
use native.Mathlib.Nat.{div-add-mod}
use native.Mathlib.Omega.{arith}
use lib.ListN.{length, get_or}
use Rattle.lists.specs.Tab.{tab}
use Rattle.lists.proofs.Laws.{length_tab, get_or_tab}
use Rattle.nick.specs.Blocks.{begun}
use Rattle.nick.specs.Scanline.{active_at, pointers_after, dot_at, slot_dots, slots_dots, begun_dots, line_dots}
use Rattle.nick.specs.External.{dot_colour}
use Rattle.nick.specs.declared.Registers.{Registers}
use Rattle.nick.specs.declared.Scan.{Scan}
use Rattle.lists.proofs.Rows.{rows, length_rows, get_or_rows}

-- the colour of dot j of dot slot n with external byte e, in a scanline that begins as c says
abbrev pub slot_colour : Registers → List ℕ → Scan → ℕ → ℕ → ℕ → ℕ
slot_colour g ram c n j e =
    dot_colour g c.block (dot_at (active_at c.block n) ram c.block (pointers_after c.block n c.at) j) e

module _ (g : Registers) (ram : List ℕ) (c : Scan) (ext : ℕ → ℕ) where
  -- the dots of dot slot n
  abbrev slot_of : ℕ → List ℕ
  slot_of n = slot_dots g ram c.block n (pointers_after c.block n c.at) ext

  -- the colour of its dot j
  abbrev colour_in : ℕ → ℕ → ℕ
  colour_in n j = slot_colour g ram c n j (ext (16 * n + j))

  slot_tab : (n k : ℕ) → k ≡ 16 → slot_of n ≡ tab (colour_in n) k
  unfolding slot_dots
  slot_tab n k e = ap (tab (colour_in n)) (sym e)

  length_slot : (k : ℕ) → k ≡ 16 → (n : ℕ) → length (slot_of n) ≡ 16
  length_slot k e n = rw (slot_tab n k e) (length_tab (colour_in n) k ∙ e)

  slot_dot : (k : ℕ) → k ≡ 16 → (n j : ℕ) → j < k → get_or (slot_of n) j 0 ≡ colour_in n j
  slot_dot k e n j h = rw (slot_tab n k e) (get_or_tab (colour_in n) k j 0 h)

  slots_rows : (n : ℕ) → slots_dots g ram c.block n c.at ext ≡ rows slot_of n
  slots_rows zero = refl
  slots_rows (suc n) = rw (slots_rows n)

  begun_rows : (n : ℕ) → n ≡ 46 → begun_dots g ram c ext ≡ rows slot_of n
  unfolding begun_dots
  begun_rows n e = ap (λ (m : ℕ). slots_dots g ram c.block m c.at ext) (sym e) ∙ slots_rows n

  length_begun : (n : ℕ) → n ≡ 46 → length (begun_dots g ram c ext) ≡ 736
  length_begun n e = rw (begun_rows n e) (length_rows slot_of 16 (length_slot 16 refl) n ∙ ap (λ (m : ℕ). 16 * m) e)

  begun_dot :
      (n : ℕ) → n ≡ 46
      → (x : ℕ) → x < 736
      → get_or (begun_dots g ram c ext) x 0 ≡ slot_colour g ram c (x / 16) (x % 16) (ext x)
  begun_dot n e x h =
      let q : 16 * (x / 16) + x % 16 ≡ x = div-add-mod x 16 in
      rw (begun_rows n e)
      (ap (λ (i : ℕ). get_or (rows slot_of n) i 0) (sym q)
      ∙ get_or_rows slot_of 16 (length_slot 16 refl) n (x / 16) (x % 16) 0 (omega arith) (omega arith)
      ∙ slot_dot 16 refl (x / 16) (x % 16) (omega arith)
      ∙ ap (λ (i : ℕ). slot_colour g ram c (x / 16) (x % 16) (ext i)) q)

module _ (g : Registers) (ram : List ℕ) (c : Scan) (ext : ℕ → ℕ) where
  -- "Dots: 736 per scanline (46 slots of 16)."
  pub length_line : length (line_dots g ram c ext) ≡ 736
  unfolding line_dots
  length_line = length_begun g ram (begun g ram c) ext 46 refl

  -- slots "8 to 53 hold the dots in order": dot x of the next scanline
  pub line_dot :
      (x : ℕ) → x < 736 → get_or (line_dots g ram c ext) x 0 ≡ slot_colour g ram (begun g ram c) (x / 16) (x % 16) (ext x)
  unfolding line_dots
  line_dot = begun_dot g ram (begun g ram c) ext 46 refl

-- a dot sees no external byte but its own
pub own_external :
    (g : Registers) (ram : List ℕ) (c : Scan) (ext : ℕ → ℕ) (x : ℕ) → x < 736
    → get_or (line_dots g ram c ext) x 0 ≡ get_or (line_dots g ram c (λ _. ext x)) x 0
own_external g ram c ext x h = line_dot g ram c ext x h ∙ sym (line_dot g ram c (λ _. ext x) x h)
