-- The active slots counted from the margins are those counted slot by slot.
use mathlib.Core.Path.{◌≡◌, refl}
use mathlib.Core.Bool.{Bool, true, false, ◌&&◌}
use Prim.Native.Nat.{ℕ, suc, ◌+◌, ◌-◌, min}
use native.Mathlib.Omega.{arith}
use lib.Dec.{leb, ltb}
use borrow.Author.Tests.{ltb-true, ltb-false, leb-true, leb-false}
use Rattle.lists.specs.Number.{number}
use Rattle.nick.specs.Slots.{left_margin, right_margin, active_slots}
use Rattle.nick.specs.Scanline.{active_at}
use Rattle.nick.specs.declared.Block.{Block}
use Rattle.blocks.specs.ActiveSlots.{active_before}

-- of the slots from l up to r, one more lies below 8 + n + 1 where slot 8 + n is one of them
count_more : (l r n : ℕ) → min r (8 + suc n) - l ≡ min r (8 + n) - l + number (leb l (8 + n) && ltb (8 + n) r)
count_more l r n = go (leb l (8 + n)) (ltb (8 + n) r) refl refl
  where
    go : (p q : Bool) → leb l (8 + n) ≡ p → ltb (8 + n) r ≡ q → min r (8 + suc n) - l ≡ min r (8 + n) - l + number (p && q)
    go false q e f = omega (arith, leb-false l (8 + n) e)
    go true false e f = omega (arith, ltb-false (8 + n) r f)
    go true true e f = omega (arith, leb-true l (8 + n) e, ltb-true (8 + n) r f)

-- the active slots are counted slot by slot
pub active_none : (b : Block) → active_before b 0 ≡ 0
active_none b = omega arith

pub active_more : (b : Block) (n : ℕ) → active_before b (suc n) ≡ active_before b n + number (active_at b n)
active_more b n = count_more (left_margin b) (right_margin b) n

-- all of them lie in the 46 dot slots
pub active_all : (b : Block) → active_before b 46 ≡ active_slots b
active_all b = omega arith
