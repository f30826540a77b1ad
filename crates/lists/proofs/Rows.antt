-- Lists made of rows, one after the other: the slots of a scanline, the scanlines of a frame, the records.
use mathlib.Core.Path.{◌≡◌, refl, sym, ◌∙◌}
use mathlib.Core.List.{List, [], ◌++◌, append-nil, append_assoc}
use Prim.Native.Nat.{ℕ, zero, suc, ◌+◌, ◌*◌, ◌<◌}
use native.Mathlib.Nat.{add-zero, add-suc, mul-suc, mul-zero, mul-le-mul_left, not-suc-le-zero}
use native.Mathlib.Decide.{dec_lt}
use native.Mathlib.Omega.{arith}
use lib.ListN.{length, get_or, length-append, get_or-append}
use lib.Seq.{get_or-append-add}

-- rows 0 to n - 1
abbrev pub rows {ℓ} : {A : Type ℓ} → (ℕ → List A) → ℕ → List A
rows f zero = []
rows f (suc n) = rows f n ++ f n

module _ {ℓ} {A : Type ℓ} where
  -- n + m rows are n rows, and then m
  pub rows_add : (f : ℕ → List A) (n m : ℕ) → rows f (n + m) ≡ rows f n ++ rows (λ k. f (n + k)) m
  rows_add f n zero = rw (add-zero n) (sym (append-nil (rows f n)))
  rows_add f n (suc m) =
      rw (add-suc n m, rows_add f n m) (append_assoc (rows f n) (rows (λ k. f (n + k)) m) (f (n + m)))

  -- equal rows make equal lists
  pub rows_same : (f h : ℕ → List A) → ((k : ℕ) → f k ≡ h k) → (n : ℕ) → rows f n ≡ rows h n
  rows_same f h e zero = refl
  rows_same f h e (suc n) = rw (rows_same f h e n, e n)

module _ {ℓ} {A : Type ℓ} (f : ℕ → List A) (w : ℕ) (wide : (k : ℕ) → length (f k) ≡ w) where
  pub length_rows : (n : ℕ) → length (rows f n) ≡ w * n
  length_rows zero = sym (mul-zero w)
  length_rows (suc n) = length-append (rows f n) (f n) ∙ rw (length_rows n, wide n) (sym (mul-suc w n))

  -- place j of row k
  pub get_or_rows : (n k j : ℕ) (d : A) → k < n → j < w → get_or (rows f n) (w * k + j) d ≡ get_or (f k) j d
  get_or_rows zero k j d h l = absurd (not-suc-le-zero h)
  get_or_rows (suc n) k j d h l = go (get_or_rows n k j d) (dec_lt k n)
    where
      go :
          (k < n → j < w → get_or (rows f n) (w * k + j) d ≡ get_or (f k) j d)
          → Dec (k < n)
          → get_or (rows f n ++ f n) (w * k + j) d ≡ get_or (f k) j d
      go ih (yes u) =
          get_or-append (rows f n) (f n) d (w * k + j) (rw (length_rows n) (omega (arith, mul-le-mul_left w u))) ∙ ih u l
      go ih (no u) =
          let e : k ≡ n = omega arith in
          rw (e, ← length_rows n) (get_or-append-add (rows f n) (f n) j d)
