-- Laws on text that is written piece after piece.
use mathlib.Core.Path.{◌≡◌, refl, ap, ◌∙◌}
use mathlib.Core.List.{List, [], ◌∷◌, ◌++◌}
use Prim.Native.Nat.{ℕ, zero, suc, ◌+◌, ◌-◌, ◌^◌, ◌<◌, ◌≤◌}
use native.Mathlib.Omega.{arith}
use native.Mathlib.Nat.{zero-add, add-zero, sub-zero, add-suc, suc-add, add_assoc}
use native.Mathlib.Numerals.{add-one}
use lib.ListN.{length, get_or, take, drop, set, length-append}
use lib.Seq.{sets, sets-eq, take-suc, take_all}
use Rattle.text.specs.Writing.{wrote}
use Rattle.text.specs.declared.Writer.{Writer}

-- stores of two texts in a row
pub sets_append : (out x y : List ℕ) (at : ℕ) → sets out at (x ++ y) ≡ sets (sets out at x) (at + length x) y
sets_append out [] y at = rw (add-zero at)
sets_append out (b ∷ x) y at =
    sets_append (set out at b) x y (suc at) ∙ rw (suc-add at (length x), add-suc at (length x))

-- a text that a buffer has room for stands at its start, and the bytes after it are kept
pub sets_start : (out text : List ℕ) → length text ≤ length out → sets out 0 text ≡ text ++ drop (length text) out
sets_start out text h = sets-eq text out 0 (omega arith) ∙ rw (zero-add (length text)) refl

-- of two texts in a row that part is counted which is counted of the first, then of the second
take_append : (n : ℕ) (x y : List ℕ) → take n (x ++ y) ≡ take n x ++ take (n - length (take n x)) y
take_append zero x y = refl
take_append (suc n) [] y = rw (sub-zero (suc n)) refl
take_append (suc n) (b ∷ x) y =
    let e : suc n - suc (length (take n x)) ≡ n - length (take n x) = omega arith in
    rw e (ap (λ xs. b ∷ xs) (take_append n x y))

-- nothing is written yet
pub wrote_none : (w : Writer) → w ≡ wrote w []
unfolding wrote
wrote_none w = rw (take_all {A = ℕ} (2 ^ 64 - 1 - w.end) [] (omega arith), add-zero w.end)

-- a text whose end is a usize is written whole
pub wrote_whole : (w : Writer) (text : List ℕ) → w.end + length text < 2 ^ 64
    → wrote w text ≡ record { out = record w.out { now = sets w.out.now w.end text }; end = w.end + length text }
unfolding wrote
wrote_whole w text h = rw (take_all (2 ^ 64 - 1 - w.end) text (omega arith)) refl

-- one text, then another after it
pub wrote_then : (w : Writer) (x y : List ℕ) → wrote (wrote w x) y ≡ wrote w (x ++ y)
unfolding wrote
wrote_then w x y =
    let n = 2 ^ 64 - 1 - w.end in
    let p = take n x in
    let q = take (n - length p) y in
    let e : 2 ^ 64 - 1 - (w.end + length p) ≡ n - length p = omega arith in
    rw (e, take_append n x y, length-append p q, add_assoc w.end (length p) (length q), sets_append w.out.now p q w.end)

-- one byte more of a text
pub wrote_more : (w : Writer) (text : List ℕ) (i : ℕ) → i < length text → wrote (wrote w (take i text)) (get_or text i 0 ∷ []) ≡ wrote w (take (i + 1) text)
wrote_more w text i h = wrote_then w (take i text) (get_or text i 0 ∷ []) ∙ rw (add-one i, take-suc text i 0 h)

-- the laws by which a writer's text follows, piece after piece
pub ruleset writing = (wrote_none, wrote_then)
