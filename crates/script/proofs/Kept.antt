-- A buffer that steps paint row by row.
use mathlib.Core.Path.{◌≡◌, refl, sym, ap, ◌∙◌}
use mathlib.Core.List.{List, [], ◌++◌, append-nil, append_assoc}
use Prim.Native.Nat.{ℕ, ◌+◌, ◌*◌, ◌≤◌}
use native.Mathlib.Omega.{arith}
use lib.ListN.{length, take, drop, length-append, length-take, take-append-drop}
use lib.Seq.{take_at, drop_at, drop-drop}

-- A buffer of rows of w bytes, of which `lines` are painted: they, and then what is painted from here on, are all that is painted;
-- the rest is as it was.
pub record Kept (w : ℕ) (buffer₀ all : List ℕ) (lines : ℕ) (buffer next : List ℕ) : Type 0 where
  pub size : length buffer ≡ length buffer₀
  pub front : take (w * lines) buffer ++ next ≡ all
  pub back : drop (w * lines) buffer ≡ drop (w * lines) buffer₀

-- one row more, or none
module _ {w : ℕ} {buffer₀ all : List ℕ} {lines : ℕ} {buffer : List ℕ} (row next : List ℕ) (k : Kept w buffer₀ all lines buffer (row ++ next)) where
  pub kept_more :
      (more : ℕ) (buffer₁ : List ℕ)
      → w * lines ≤ length buffer
      → w * lines + length row ≡ w * more
      → length buffer₁ ≡ length buffer
      → buffer₁ ≡ take (w * lines) buffer ++ (row ++ drop (w * more) buffer)
      → Kept w buffer₀ all more buffer₁ next
  kept_more more buffer₁ inside size same e =
      let start = take (w * lines) buffer in
      let full : length (start ++ row) ≡ w * more =
      length-append start row ∙ rw (length-take (w * lines) buffer) (omega (arith, inside, size)) in
      let parts : buffer₁ ≡ (start ++ row) ++ drop (w * more) buffer = e ∙ sym (append_assoc start row (drop (w * more) buffer)) in
      record {
        size = same ∙ k.size;
        front = rw (parts, take_at (start ++ row) (drop (w * more) buffer) (w * more) full) (append_assoc start row next ∙ k.front);
        back =
            rw (parts, drop_at (start ++ row) (drop (w * more) buffer) (w * more) full, ← size, ← drop-drop (length row) (w * lines) buffer)
            (ap (drop (length row)) k.back ∙ drop-drop (length row) (w * lines) buffer₀);
      }

-- all rows
pub kept_all :
    {w : ℕ} {buffer₀ all : List ℕ} {lines : ℕ} {buffer : List ℕ}
    → Kept w buffer₀ all lines buffer []
    → buffer ≡ all ++ drop (w * lines) buffer₀
kept_all {w} {buffer₀} {all} {lines} {buffer} k =
    sym (take-append-drop (w * lines) buffer)
    ∙ rw (k.back, ← k.front, append-nil (take (w * lines) buffer)) refl
