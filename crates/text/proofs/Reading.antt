-- Laws on the number that digits spell: texts in two parts, the bound taken early, and that a number's own digits spell it.
use mathlib.Core.Path.{◌≡◌, refl, sym, ap, ◌∙◌}
use mathlib.Core.Bool.{true, false, not, ◌&&◌, and-false, or-true, and_assoc}
use mathlib.Core.List.{List, [], ◌∷◌, ◌++◌}
use Prim.Native.Nat.{ℕ, zero, suc, ◌+◌, ◌*◌, ◌/◌, ◌%◌, ◌≤◌, ◌<◌, min}
use native.Mathlib.Nat.{not-suc-le-zero}
use native.Mathlib.Numerals.{add-one}
use native.Mathlib.Decide.{dec_lt}
use native.Mathlib.Omega.{arith}
use lib.Dec.{eqb, ltb}
use lib.ListN.{length, get_or, take, drop, length-append}
use lib.Seq.{take-suc, take_all, split_at}
use borrow.Author.Tests.{lt-ltb, le-ltb, ne_eqb}
use Rattle.text.specs.Decimal.{decimal}
use Rattle.text.specs.Reading.{digit, digits, value_from, number_of}
use Rattle.std.specs.Prelude.{Some, None}
use Rattle.text.proofs.Decimal.{decimal_one, decimal_more}

-- digits and value of a text in two parts
digits_append : (front back : List ℕ) → digits (front ++ back) ≡ digits front && digits back
digits_append [] back = refl
digits_append (b ∷ front) back = rw (digits_append front back) (sym (and_assoc (not (ltb 9 (digit b))) (digits front) (digits back)))

value_append : (v : ℕ) (front back : List ℕ) → value_from v (front ++ back) ≡ value_from (value_from v front) back
value_append v [] back = refl
value_append v (b ∷ front) back = value_append (10 * v + digit b) front back

module _ (text : List ℕ) where
  module _ (i : ℕ) (h : i < length text) where
    -- one digit more
    pub digits_more : digits (take i text) ≡ true → digit (get_or text i 0) ≤ 9 → digits (take (i + 1) text) ≡ true
    digits_more d l =
        rw (add-one i, take-suc text i 0 h, digits_append (take i text) (get_or text i 0 ∷ []), d, le-ltb 9 (digit (get_or text i 0)) l)

    pub value_more : (v : ℕ) → v ≡ min (value_from 0 (take i text)) 65536
        → min (10 * v + digit (get_or text i 0)) 65536 ≡ min (value_from 0 (take (i + 1) text)) 65536
    value_more v e =
        rw (e, add-one i, take-suc text i 0 h, value_append 0 (take i text) (get_or text i 0 ∷ []))
        (bound_early (value_from 0 (take i text)) (digit (get_or text i 0)))
      where
        bound_early : (n d : ℕ) → min (10 * min n 65536 + d) 65536 ≡ min (10 * n + d) 65536
        bound_early n d = omega arith

    -- a byte that is no digit
    pub none_spoilt : 9 < digit (get_or text i 0) → None ≡ number_of text
    unfolding number_of
    none_spoilt l =
        let rest = drop (suc i) text in
        let none : digits text ≡ false
        = ap digits (split_at text i 0 h)
        ∙ digits_append (take i text) (get_or text i 0 ∷ rest)
        ∙ rw (lt-ltb 9 (digit (get_or text i 0)) l) (and-false (digits (take i text))) in
        rw none (rw (or-true (eqb (length text) 0)))

  pub none_empty : length text ≡ 0 → None ≡ number_of text
  unfolding number_of
  none_empty h = rw h

  pub some_number : (i v : ℕ) → length text ≤ i → (length text ≡ 0 → ⊥) → digits (take i text) ≡ true
      → v ≡ min (value_from 0 (take i text)) 65536 → Some v ≡ number_of text
  unfolding number_of
  some_number i v e h d p =
      let all = take_all i text e in
      rw (ne_eqb (length text) 0 h, rw all at d, p, all)

-- the digit that stands for a number below ten
digit_of : (n : ℕ) → n < 10 → digit (48 + n) ≡ n
digit_of n h = rw (le-ltb (48 + n) 48 (omega arith), le-ltb 57 (48 + n) (omega arith)) (omega arith)

is_digit : (n : ℕ) → n < 10 → digits ((48 + n) ∷ []) ≡ true
is_digit n h = rw (digit_of n h, le-ltb 9 n (omega arith))

-- what is known of a number's own digits
pub record Spells (n : ℕ) (text : List ℕ) : Type 0 where
  pub some : 0 < length text
  pub all : digits text ≡ true
  pub value : value_from 0 text ≡ n

spells_below : (fuel n : ℕ) → n < fuel → Spells n (decimal n)
spells_below zero n h = absurd (not-suc-le-zero h)
spells_below (suc fuel) n h = go (spells_below fuel (n / 10)) (dec_lt n 10)
  where
    go : (n / 10 < fuel → Spells (n / 10) (decimal (n / 10))) → Dec (n < 10) → Spells n (decimal n)
    go ih (yes l) = rw (decimal_one n l) (record { some = omega arith; all = is_digit n l; value = rw (digit_of n l) (omega arith) })
    go ih (no l) =
        let front = decimal (n / 10) in
        let last = (48 + n % 10) ∷ [] in
        let s = ih (omega arith) in
        rw (decimal_more n (omega arith)) (record {
          some = omega (arith, length-append front last);
          all = digits_append front last ∙ rw s.all (is_digit (n % 10) (omega arith));
          value = value_append 0 front last ∙ rw (s.value, digit_of (n % 10) (omega arith)) (omega arith);
        })

pub spells : (n : ℕ) → Spells n (decimal n)
spells n = spells_below (suc n) n (omega arith)

-- the digits of a number determine it
pub decimal_determines : (m n : ℕ) → decimal m ≡ decimal n → m ≡ n
decimal_determines m n e = sym (spells m).value ∙ ap (value_from 0) e ∙ (spells n).value

-- what is written is read back
pub read_back : (n : ℕ) → number_of (decimal n) ≡ Some (min n 65536)
unfolding number_of
read_back n =
    let s = spells n in
    rw (ne_eqb (length (decimal n)) 0 (λ e. omega (arith, s.some)), s.all, s.value)
