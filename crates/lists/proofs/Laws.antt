-- General laws on lists: whole buffers, parts that are lent in a loop, and lists made from a rule for each place.
use mathlib.Core.Path.{◌≡◌, refl, sym, ◌∙◌}
use mathlib.Core.List.{List, [], ◌∷◌, ◌++◌, append-nil, append_assoc}
use Prim.Native.Nat.{ℕ, zero, suc, ◌+◌, ◌*◌, ◌≤◌, ◌<◌}
use native.Mathlib.Nat.{add_comm, mul-zero, mul-suc, not-suc-le-zero}
use native.Mathlib.Numerals.{add-one}
use native.Mathlib.Decide.{dec_lt}
use native.Mathlib.Omega.{arith}
use lib.ListN.{length, get_or, take, drop, replicate, length-append, drop_of_length-le, replicate-append-replicate, get_or-append}
use lib.Seq.{take-length, take_at, drop_at, drop-drop, get_or_at, ext_get_or}
use Rattle.std.specs.Simd.{first_chunks}
use Rattle.lists.specs.Tab.{tab}

module _ {ℓ} {A : Type ℓ} where
  -- a front that reaches the end is the whole
  pub front_all : (p d : List A) (n : ℕ) → length d ≤ n → p ++ drop n d ≡ p
  front_all p d n h = rw (drop_of_length-le d h) (append-nil p)

  -- a list copied over another of its length
  pub copied : (xs ys zs : List A) → zs ≡ take (length xs) xs ++ drop (length xs) ys → length ys ≤ length xs → zs ≡ xs
  copied xs ys zs e h = rw (e, front_all (take (length xs) xs) ys (length xs) h) (take-length xs)

  -- k places at the end of the front, lent and given back as ys, make the front longer
  pub lent : (p d ys : List A) (a k : ℕ) → length p ≡ a → take a (p ++ drop a d) ++ (ys ++ drop k (drop a (p ++ drop a d))) ≡ (p ++ ys) ++ drop (a + k) d
  lent p d ys a k hp =
      rw (take_at p (drop a d) a hp, drop_at p (drop a d) a hp, drop-drop k a d) (sym (append_assoc p ys (drop (a + k) d)))

  -- a list made from a rule: its length, and each place
  pub length_tab : (f : ℕ → A) (n : ℕ) → length (tab f n) ≡ n
  length_tab f zero = refl
  length_tab f (suc n) = rw (length-append (tab f n) (f n ∷ []), length_tab f n) (add-one n)

  pub get_or_tab : (f : ℕ → A) (n i : ℕ) (d : A) → i < n → get_or (tab f n) i d ≡ f i
  get_or_tab f zero i d h = absurd (not-suc-le-zero h)
  get_or_tab f (suc n) i d h = go (get_or_tab f n i d) (dec_lt i n)
    where
      go : (i < n → get_or (tab f n) i d ≡ f i) → Dec (i < n) → get_or (tab f n ++ (f n ∷ [])) i d ≡ f i
      go ih (yes l) = get_or-append (tab f n) (f n ∷ []) d i (rw (length_tab f n) l) ∙ ih l
      go ih (no l) =
          let e : i ≡ n = omega arith in
          rw e (get_or_at (tab f n) (f n) [] d n (length_tab f n))

  -- a list is its places, one after another
  pub tab_places : (d : A) (xs : List A) → tab (λ i. get_or xs i d) (length xs) ≡ xs
  tab_places d xs =
      let e = length_tab (λ i. get_or xs i d) (length xs) in
      ext_get_or d (tab (λ i. get_or xs i d) (length xs)) xs e (λ i h. get_or_tab (λ j. get_or xs j d) (length xs) i d (rw e at h))

module _ {ℓ} {A : Type ℓ} where
  -- two rules that agree on the places make the same list
  pub tab_same : (f g : ℕ → A) (n : ℕ) → ((i : ℕ) → i < n → f i ≡ g i) → tab f n ≡ tab g n
  tab_same f g zero h = refl
  tab_same f g (suc n) h = rw (tab_same f g n (λ i l. h i (omega arith)), h n (omega arith))

  -- one value at every place
  pub tab_one : (x : A) (n : ℕ) → tab (λ i. x) n ≡ replicate n x
  tab_one x zero = refl
  tab_one x (suc n) = rw (tab_one x n, replicate-append-replicate n 1 x, add-one n)

-- chunk i of a list in chunks of n
pub chunk_at : {A : Type 0} (n k i : ℕ) (xs : List A) → i < k → get_or (first_chunks n k xs) i [] ≡ take n (drop (n * i) xs)
chunk_at n zero i xs h = absurd (not-suc-le-zero h)
chunk_at n (suc k) zero xs h = rw (mul-zero n) refl
chunk_at n (suc k) (suc i) xs h =
    chunk_at n k i (drop n xs) (omega arith) ∙ rw (drop-drop (n * i) n xs, mul-suc n i, add_comm n (n * i)) refl
