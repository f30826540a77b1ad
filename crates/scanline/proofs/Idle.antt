-- A scanline in which no slot fetches: its dots are plain, its pointers stay.
use Rattle.std.proofs.Common.{◌≡◌, ℕ, zero, suc, ◌+◌, ◌*◌, ◌≤◌, Bool, true, false, cond, ◌&&◌, List, [], map, length, replicate, sym, refl, ap, ◌∙◌, true≢false, arith, le-ltb, le-leb}
use mathlib.Core.Bool.{and-false}
use native.Mathlib.Decide.{dec_le}
use borrow.Author.Tests.{lt-leb}
use lib.ListN.{replicate-append-replicate}
use Rattle.lists.proofs.Laws.{tab_same, tab_one}
use Rattle.nick.specs.Numbers.{byte_at}
use Rattle.nick.specs.Slots.{
  Mode,
  VSYNC,
  PIXEL,
  ATTR,
  CH,
  UNUSED,
  LPIXEL,
  left_margin,
  right_margin,
  active_slots,
  mode_of,
  mode_fetches,
  slot_fetches,
  slot_pointers,
  dot_addresses,
}
use Rattle.nick.specs.Colour.{Colours, colours_of, dot_in}
use Rattle.nick.specs.External.{dot_colour}
use Rattle.nick.specs.Scanline.{active_at, past_slot, pointers_after, slot_addresses, slots_fetched, dot_at, slot_dots, slots_dots, begun_dots, begun_fetches}
use Rattle.nick.specs.Sync.{syncs}
use Rattle.nick.specs.Record.{fetching_slots}
use Rattle.nick.specs.declared.Registers.{Registers}
use Rattle.nick.specs.declared.Pointers.{Pointers}
use Rattle.nick.specs.declared.Block.{Block}
use Rattle.nick.specs.declared.Scan.{Scan}
use Rattle.scanline.specs.PaintedLine.{slots_end}

-- where byte 3 of the record is 0, each slot is outside the margins or its mode does not fetch
idle : (b : Block) (n : ℕ) → fetching_slots b ≡ 0 → active_at b n && mode_fetches (mode_of b) ≡ false
idle b n h = go (mode_fetches (mode_of b)) h
  where
    outside : active_slots b ≡ 0 → Dec (left_margin b ≤ 8 + n) → active_at b n ≡ false
    outside e (yes l) = rw (le-leb (left_margin b) (8 + n) l, le-ltb (8 + n) (right_margin b) (omega arith))
    outside e (no l) = rw (lt-leb (left_margin b) (8 + n) (omega arith))

    go : (t : Bool) → cond t (active_slots b) 0 ≡ 0 → active_at b n && t ≡ false
    go true e = rw (outside e (dec_le (left_margin b) (8 + n)))
    go false e = and-false (active_at b n)

module _ (g : Registers) (b : Block) where
  plain : ℕ
  plain = cond (syncs (mode_of b)) 0 g.border

  -- a dot of a slot that does not fetch
  idle_dot : (active : Bool) (m : Mode) (cs : Colours) (bytes : List ℕ) (j e : ℕ) → active && mode_fetches m ≡ false
      → cond (syncs m) 0 g.border ≡ dot_colour g b (dot_in m active b cs bytes j) e
  idle_dot active VSYNC cs bytes j e h = refl
  idle_dot active UNUSED cs bytes j e h = refl
  idle_dot false PIXEL cs bytes j e h = refl
  idle_dot false ATTR cs bytes j e h = refl
  idle_dot false (CH width) cs bytes j e h = refl
  idle_dot false LPIXEL cs bytes j e h = refl
  idle_dot true PIXEL cs bytes j e h = absurd (true≢false h)
  idle_dot true ATTR cs bytes j e h = absurd (true≢false h)
  idle_dot true (CH width) cs bytes j e h = absurd (true≢false h)
  idle_dot true LPIXEL cs bytes j e h = absurd (true≢false h)

  -- its pointers, and what it fetches
  idle_past : (active : Bool) (m : Mode) (p : Pointers) → active && mode_fetches m ≡ false → cond active (slot_pointers m p) p ≡ p
  idle_past false m p h = refl
  idle_past true VSYNC p h = refl
  idle_past true UNUSED p h = refl
  idle_past true PIXEL p h = absurd (true≢false h)
  idle_past true ATTR p h = absurd (true≢false h)
  idle_past true (CH width) p h = absurd (true≢false h)
  idle_past true LPIXEL p h = absurd (true≢false h)

  idle_none : (active : Bool) (m : Mode) (ram : List ℕ) (p : Pointers) → active && mode_fetches m ≡ false
      → cond active (slot_fetches m ram p) [] ≡ []
  idle_none false m ram p h = refl
  idle_none true VSYNC ram p h = refl
  idle_none true UNUSED ram p h = refl
  idle_none true PIXEL ram p h = absurd (true≢false h)
  idle_none true ATTR ram p h = absurd (true≢false h)
  idle_none true (CH width) ram p h = absurd (true≢false h)
  idle_none true LPIXEL ram p h = absurd (true≢false h)

module _ (g : Registers) (ram : List ℕ) (c : Scan) (ext : ℕ → ℕ) (none : fetching_slots c.block ≡ 0) where
  -- one slot
  slot_plain : (n : ℕ) (q : Pointers) → slot_dots g ram c.block n q ext ≡ replicate 16 (plain g c.block)
  unfolding slot_dots plain
  slot_plain n q =
      sym
      (sym (tab_one (plain g c.block) 16)
      ∙ tab_same (λ j. plain g c.block) (λ j. dot_colour g c.block (dot_at (active_at c.block n) ram c.block q j) (ext (16 * n + j))) 16
      (λ j l.
      idle_dot g c.block (active_at c.block n) (mode_of c.block) (colours_of c.block)
      (map (byte_at ram) (dot_addresses (mode_of c.block) ram q j)) j (ext (16 * n + j)) (idle c.block n none)))

  slot_past : (n : ℕ) (q : Pointers) → past_slot (active_at c.block n) c.block q ≡ q
  slot_past n q = idle_past g c.block (active_at c.block n) (mode_of c.block) q (idle c.block n none)

  slot_none : (n : ℕ) (q : Pointers) → slot_addresses (active_at c.block n) ram c.block q ≡ []
  slot_none n q = idle_none g c.block (active_at c.block n) (mode_of c.block) ram q (idle c.block n none)

  -- n slots
  slots_plain : (n : ℕ) → slots_dots g ram c.block n c.at ext ≡ replicate (16 * n) (plain g c.block)
  slots_plain zero = refl
  slots_plain (suc n) =
      let next : 16 * n + 16 ≡ 16 * suc n = omega arith in
      rw (slots_plain n, slot_plain n (pointers_after c.block n c.at))
      (replicate-append-replicate (16 * n) 16 (plain g c.block) ∙ ap (λ (k : ℕ). replicate k (plain g c.block)) next)

  slots_past : (n : ℕ) → pointers_after c.block n c.at ≡ c.at
  slots_past zero = refl
  slots_past (suc n) = slot_past n (pointers_after c.block n c.at) ∙ slots_past n

  slots_none : (n : ℕ) → slots_fetched ram c.block n c.at ≡ []
  slots_none zero = refl
  slots_none (suc n) = rw (slots_none n, slot_none n (pointers_after c.block n c.at)) refl

  -- the whole scanline
  pub idle_dots : (k : ℕ) → k ≡ 736 → replicate k (cond (syncs (mode_of c.block)) 0 g.border) ≡ begun_dots g ram c ext
  unfolding begun_dots plain
  idle_dots k e = ap (λ (n : ℕ). replicate n (plain g c.block)) e ∙ sym (slots_plain 46)

  pub idle_at : c.at ≡ slots_end c
  unfolding slots_end
  idle_at = sym (slots_past 46)

  pub idle_fetches : 0 ≡ length (begun_fetches ram c)
  unfolding begun_fetches
  idle_fetches = sym (ap length (slots_none 46))
