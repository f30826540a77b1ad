-- Laws on numbers that each stand after a tab.
use mathlib.Core.Path.{◌≡◌, refl, sym}
use mathlib.Core.List.{List, [], ◌∷◌, ◌++◌, append-nil, append_assoc}
use Prim.Native.Nat.{ℕ, ◌+◌, ◌<◌}
use native.Mathlib.Numerals.{add-one}
use lib.ListN.{length, get_or, take}
use lib.Seq.{take-suc}
use Rattle.text.specs.Decimal.{TAB, decimal, tabbed}

-- a number after a tab
abbrev pub field : ℕ → List ℕ
field n = TAB ∷ decimal n

pub no_field : tabbed [] ≡ []
unfolding tabbed
no_field = refl

pub one_field : (n : ℕ) → tabbed (n ∷ []) ≡ field n
unfolding tabbed
one_field n = append-nil (field n)

-- tabbed numbers after tabbed numbers
pub tabbed_append : (xs ys : List ℕ) → tabbed (xs ++ ys) ≡ tabbed xs ++ tabbed ys
unfolding tabbed
tabbed_append [] ys = refl
tabbed_append (n ∷ xs) ys = rw (tabbed_append xs ys) (sym (append_assoc (TAB ∷ decimal n) (tabbed xs) (tabbed ys)))

-- one number more of several
module _ (ns : List ℕ) (i : ℕ) (h : i < length ns) where
  pub fields_more : tabbed (take (i + 1) ns) ≡ tabbed (take i ns) ++ field (get_or ns i 0)
  fields_more = rw (add-one i, take-suc ns i 0 h, tabbed_append (take i ns) (get_or ns i 0 ∷ []), one_field (get_or ns i 0))
