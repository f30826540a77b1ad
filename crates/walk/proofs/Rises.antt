-- Laws on how far the pointers go up, over the steps of the mode.
use Rattle.std.proofs.Common.{◌≡◌, ℕ, zero, suc, ◌+◌, ◌*◌, ◌%◌, ◌<◌, Bool, true, false, sym, refl, ap, ◌∙◌, add-zero, add_assoc, mod-eq_of_lt, mul-zero, mul-one, mul-add, arith}
use native.Mathlib.Nat.{mod-add-mod}
use Rattle.lists.specs.Number.{number}
use Rattle.nick.specs.Numbers.{up}
use Rattle.nick.specs.Slots.{Mode, VSYNC, PIXEL, ATTR, CH, UNUSED, LPIXEL, mode_of, slot_pointers, line_pointers}
use Rattle.nick.specs.Scanline.{active_at, past_slot, pointers_after}
use Rattle.nick.specs.declared.Pointers.{Pointers}
use Rattle.nick.specs.declared.Block.{Block}
use Rattle.blocks.specs.ActiveSlots.{active_before}
use Rattle.blocks.proofs.ActiveSlots.{active_none, active_more}
use Rattle.walk.specs.Steps.{steps_of, advanced, rise1, rise2}

-- pointers of 16 bits
pub record SixteenBits (p : Pointers) : Type 0 where
  pub ld1 : p.ld1 < 65536
  pub ld2 : p.ld2 < 65536

up_up : (m n x : ℕ) → up n (up m x) ≡ up (m + n) x
up_up m n x = mod-add-mod (x + m) 65536 n ∙ ap (λ (y : ℕ). y % 65536) (add_assoc x m n)

-- to go up twice is to go up by the sums
pub advanced_twice : (m n m' n' : ℕ) (p : Pointers) → advanced m' n' (advanced m n p) ≡ advanced (m + m') (n + n') p
unfolding advanced
advanced_twice m n m' n' p = rw (up_up m m' p.ld1, up_up n n' p.ld2)

up_none : (x : ℕ) → x < 65536 → up 0 x ≡ x
up_none x h = rw add-zero (mod-eq_of_lt h)

-- to go up by nothing changes no 16-bit pointers
pub advanced_none : (p : Pointers) → SixteenBits p → advanced 0 0 p ≡ p
unfolding advanced
advanced_none p h = rw (up_none p.ld1 h.ld1, up_none p.ld2 h.ld2)

-- advanced pointers have 16 bits
pub advanced_sixteen : (m n : ℕ) (p : Pointers) → SixteenBits (advanced m n p)
unfolding advanced
advanced_sixteen m n p = record { ld1 = omega arith; ld2 = omega arith }

-- what an active slot does to the pointers, in every mode
pub slot_advances : (m : Mode) (p : Pointers) → SixteenBits p → slot_pointers m p ≡ advanced (steps_of m).ld1 (steps_of m).ld2 p
unfolding advanced
slot_advances VSYNC p h = sym (advanced_none p h)
slot_advances PIXEL p h = rw (up_none p.ld2 h.ld2)
slot_advances ATTR p h = refl
slot_advances (CH width) p h = rw (up_none p.ld2 h.ld2)
slot_advances UNUSED p h = sym (advanced_none p h)
slot_advances LPIXEL p h = rw (up_none p.ld2 h.ld2)

-- what a scanline's end does to the pointers, in every mode
pub line_advances : (m : Mode) (p : Pointers) → SixteenBits p → line_pointers m p ≡ advanced 0 (steps_of m).line p
unfolding advanced
line_advances VSYNC p h = sym (advanced_none p h)
line_advances PIXEL p h = sym (advanced_none p h)
line_advances ATTR p h = sym (advanced_none p h)
line_advances (CH width) p h = rw (up_none p.ld1 h.ld1)
line_advances UNUSED p h = sym (advanced_none p h)
line_advances LPIXEL p h = sym (advanced_none p h)

-- a slot, active or not
pub past_slot_lem : (t : Bool) (b : Block) (p : Pointers) → SixteenBits p → past_slot t b p ≡ advanced ((steps_of (mode_of b)).ld1 * number t) ((steps_of (mode_of b)).ld2 * number t) p
past_slot_lem true b p h = rw (mul-one, mul-one) (slot_advances (mode_of b) p h)
past_slot_lem false b p h = rw (mul-zero, mul-zero) (sym (advanced_none p h))

-- the pointers after the first n dot slots
pub pointers_after_lem : (b : Block) (n : ℕ) (p : Pointers) → SixteenBits p → pointers_after b n p ≡ advanced (rise1 b n) (rise2 b n) p
pointers_after_lem b zero p h = rw (active_none b, mul-zero, mul-zero) (sym (advanced_none p h))
pointers_after_lem b (suc n) p h =
    let s = steps_of (mode_of b) in
    let a = active_before b n in
    let t = active_at b n in
    rw (pointers_after_lem b n p h, past_slot_lem t b (advanced (rise1 b n) (rise2 b n) p) (advanced_sixteen (rise1 b n) (rise2 b n) p), advanced_twice (rise1 b n) (rise2 b n) (s.ld1 * number t) (s.ld2 * number t) p, active_more b n, mul-add s.ld1 a (number t), mul-add s.ld2 a (number t))
