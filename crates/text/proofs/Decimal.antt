-- Laws on decimal digits: any fuel above the number gives them, and how many there are.
use mathlib.Core.Path.{◌≡◌, sym, ◌∙◌}
use mathlib.Core.List.{[], ◌∷◌, ◌++◌}
use Prim.Native.Nat.{ℕ, zero, suc, ◌+◌, ◌*◌, ◌/◌, ◌%◌, ◌^◌, ◌<◌, ◌≤◌}
use native.Mathlib.Nat.{not-suc-le-zero, pow-suc, div-lt_iff_lt-mul}
use native.Mathlib.Decide.{dec_lt}
use native.Mathlib.Omega.{arith}
use borrow.Author.Tests.{lt-ltb, le-ltb}
use lib.ListN.{length, length-append}
use Rattle.text.specs.Decimal.{digits_of, decimal}

digits_one : (fuel n : ℕ) → n < 10 → digits_of (suc fuel) n ≡ (48 + n) ∷ []
digits_one fuel n h = rw (lt-ltb n 10 h)

digits_more : (fuel n : ℕ) → 10 ≤ n → digits_of (suc fuel) n ≡ digits_of fuel (n / 10) ++ ((48 + n % 10) ∷ [])
digits_more fuel n h = rw (le-ltb n 10 h)

-- two fuels above the number give the same digits
any_fuel : (f g n : ℕ) → n < f → n < g → digits_of f n ≡ digits_of g n
any_fuel zero g n h k = absurd (not-suc-le-zero h)
any_fuel (suc f) zero n h k = absurd (not-suc-le-zero k)
any_fuel (suc f) (suc g) n h k = go (any_fuel f g (n / 10)) (dec_lt n 10)
  where
    go : (n / 10 < f → n / 10 < g → digits_of f (n / 10) ≡ digits_of g (n / 10)) → Dec (n < 10) → digits_of (suc f) n ≡ digits_of (suc g) n
    go ih (yes l) = digits_one f n l ∙ sym (digits_one g n l)
    go ih (no l) =
        digits_more f n (omega arith)
        ∙ rw (ih (omega arith) (omega arith)) (sym (digits_more g n (omega arith)))

-- any fuel above the number gives its digits
pub enough_fuel : (fuel n : ℕ) → n < fuel → digits_of fuel n ≡ decimal n
unfolding decimal
enough_fuel fuel n h = any_fuel fuel (suc n) n h (omega arith)

-- the digits of a number below ten, and of one from ten on
pub decimal_one : (n : ℕ) → n < 10 → decimal n ≡ (48 + n) ∷ []
unfolding decimal
decimal_one n h = digits_one n n h

pub decimal_more : (n : ℕ) → 10 ≤ n → decimal n ≡ decimal (n / 10) ++ ((48 + n % 10) ∷ [])
decimal_more n h =
    sym (enough_fuel (suc n) n (omega arith))
    ∙ digits_more n n h
    ∙ rw (enough_fuel n (n / 10) (omega arith))

-- a number below a power of ten has at most as many digits as the power says
pub decimal_length : (k n : ℕ) → n < 10 ^ suc k → length (decimal n) ≤ suc k
decimal_length zero n h = rw (decimal_one n h) (omega arith)
decimal_length (suc k) n h = go (decimal_length k (n / 10)) (dec_lt n 10)
  where
    go : (n / 10 < 10 ^ suc k → length (decimal (n / 10)) ≤ suc k) → Dec (n < 10) → length (decimal n) ≤ suc (suc k)
    go ih (yes l) = rw (decimal_one n l) (omega arith)
    go ih (no l) =
        let less : n < 10 ^ suc k * 10 = rw (pow-suc 10 (suc k)) at h in
        rw (decimal_more n (omega arith), length-append (decimal (n / 10)) ((48 + n % 10) ∷ []))
        (omega (arith, ih ((div-lt_iff_lt-mul (omega arith)).1 less)))
