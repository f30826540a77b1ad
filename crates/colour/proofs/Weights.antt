-- Palette numbers in four and in sixteen colours are below 16. Besides the two functions that compute them, only these laws
-- open the definitions that say what each bit weighs.
use Prim.Native.Nat.{ℕ, ◌-◌, ◌<◌}
use native.Mathlib.Omega.{arith}
use Rattle.nick.specs.Colour.{four_index, sixteen_index}
use Rattle.nick.proofs.Bits.{bit_below}

pub four_below : (byte k : ℕ) → four_index byte k < 16
unfolding four_index
four_below byte k = omega (arith, bit_below (7 - k) byte, bit_below (3 - k) byte)

pub sixteen_below : (byte k : ℕ) → sixteen_index byte k < 16
unfolding sixteen_index
sixteen_below byte k =
    omega (arith, bit_below (7 - k) byte, bit_below (3 - k) byte, bit_below (5 - k) byte, bit_below (1 - k) byte)
