-- Laws on single bits and pairs of bytes.
use mathlib.Core.Path.{◌≡◌, refl}
use mathlib.Core.Bool.{not}
use Prim.Native.Nat.{ℕ, ◌+◌, ◌*◌, ◌/◌, ◌%◌, ◌^◌, ◌<◌}
use native.Mathlib.Nat.{mod-lt}
use native.Mathlib.Omega.{arith}
use lib.Dec.{eqb, lit<}
use Rattle.lists.proofs.Below.{below_two}
use Rattle.nick.specs.Numbers.{bit, low, high}

-- a number below 2 is 0 exactly where it is not 1
pub zero_not_one : (n : ℕ) → n < 2 → eqb n 0 ≡ not (eqb n 1)
zero_not_one = below_two (λ n. eqb n 0 ≡ not (eqb n 1)) refl refl

-- a bit tested as clear
pub clear_not_set : (x : ℕ) → eqb (x % 2) 0 ≡ not (eqb (x % 2) 1)
clear_not_set x = zero_not_one (x % 2) (omega arith)

-- a bit is 0 or 1
pub bit_below : (k x : ℕ) → bit k x < 2
bit_below k x = mod-lt (x / 2 ^ k) (lit< tt)

-- the two bytes of a number make it
pub pair : (n : ℕ) → low n + 256 * high n ≡ n
pair n = omega arith
