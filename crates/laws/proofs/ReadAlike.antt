-- Two RAMs that read alike at some addresses begin, load, fetch and show alike. SC and MB of the blocks on the way settle which
-- blocks are loaded and when; so after the last load both RAMs have the same scan, and a dot comes from the bytes that it names.
use mathlib.Core.Path.{◌≡◌, refl, sym, ap, ◌∙◌}
use mathlib.Core.Bool.{Bool, true, false, cond}
use mathlib.Core.List.{List, [], ◌∷◌, ◌++◌, map, append-nil}
use Prim.Native.Nat.{ℕ, zero, suc, ◌+◌, ◌*◌, ◌/◌, ◌%◌, ◌<◌}
use native.Mathlib.Nat.{add-zero, not-suc-le-zero}
use native.Mathlib.Decide.{dec_lt}
use native.Mathlib.Omega.{arith}
use lib.ListN.{length, get_or, take, drop, length-take, length-drop, get_or-eq_default}
use lib.Seq.{get_or-take, get_or-drop, ext_get_or}
use Rattle.lists.specs.Tab.{tab}
use Rattle.nick.specs.Numbers.{byte_at}
use Rattle.nick.specs.Blocks.{loads, loaded_number, decoded, block_at, block_addresses, loaded, continued, begun}
use Rattle.nick.specs.Slots.{Mode, VSYNC, PIXEL, ATTR, CH, UNUSED, LPIXEL, mode_of, font_address, dot_addresses}
use Rattle.nick.specs.Colour.{Colours, Dot, dot_in, colours_of}
use Rattle.nick.specs.External.{dot_colour}
use Rattle.nick.specs.Scanline.{active_at, pointers_after, line_dots, ended, next_scan, scan_after}
use Rattle.nick.specs.Direct.{named_in, load_of, loaded_on_the_way, block_bytes_used}
use Rattle.nick.proofs.WellFormed.{block_sc}
use Rattle.nick.specs.declared.Registers.{Registers}
use Rattle.nick.specs.declared.Pointers.{Pointers}
use Rattle.nick.specs.declared.Block.{Block}
use Rattle.nick.specs.declared.Scan.{Scan}
use Rattle.laws.proofs.LineDots.{length_line, line_dot}

-- the addresses of SC and MB of these blocks
abbrev sc_and_mb : List ℕ → List ℕ
sc_and_mb [] = []
sc_and_mb (n ∷ more) = 16 * n ∷ (16 * n + 1) ∷ sc_and_mb more

sc_and_mb_append : (l r : List ℕ) → sc_and_mb (l ++ r) ≡ sc_and_mb l ++ sc_and_mb r
sc_and_mb_append [] r = refl
sc_and_mb_append (n ∷ l) r = rw (sc_and_mb_append l r)

-- how a scanline begins, by whether it loads
begun_load :
    (g : Registers) (ram : List ℕ) (c : Scan) → loads c ≡ true
    → begun g ram c ≡ loaded g (loaded_number g c) (block_at ram (loaded_number g c))
unfolding begun
begun_load g ram c e = rw e

begun_on : (g : Registers) (ram : List ℕ) (c : Scan) → loads c ≡ false → begun g ram c ≡ continued c
unfolding begun
begun_on g ram c e = rw e

-- two scans that load the same blocks at the same lines, as long as SC and MB are the same
record LoadAlike (c d : Scan) : Type 0 where
  pending : d.pending ≡ c.pending
  number : d.number ≡ c.number
  left : d.left ≡ c.left
  mb : d.block.mb ≡ c.block.mb

alike_loads : (c d : Scan) → LoadAlike c d → loads d ≡ loads c
alike_loads c d a = rw (a.pending, a.left)

alike_number : (g : Registers) (c d : Scan) → LoadAlike c d → loaded_number g d ≡ loaded_number g c
unfolding loaded_number
alike_number g c d a = rw (a.pending, a.mb, a.number)

ended_alike : (c d : Scan) → LoadAlike c d → LoadAlike (ended c) (ended d)
unfolding ended
ended_alike c d a = record { pending = a.pending; number = a.number; left = rw a.left; mb = a.mb }

continued_alike : (c d : Scan) → LoadAlike c d → LoadAlike (continued c) (continued d)
unfolding continued
continued_alike c d a = record { pending = a.pending; number = a.number; left = a.left; mb = a.mb }

loaded_alike :
    (g : Registers) (n : ℕ) (b d : Block) → d.sc ≡ b.sc → d.mb ≡ b.mb → LoadAlike (loaded g n b) (loaded g n d)
unfolding loaded
loaded_alike g n b d sc mb = record { pending = refl; number = refl; left = rw sc; mb = mb }

-- a block's bytes, in RAM
block_byte : (ram : List ℕ) (n i : ℕ) → i < 16 → byte_at (take 16 (drop (16 * n) ram)) i ≡ byte_at ram (16 * n + i)
block_byte ram n i h = get_or-take 16 (drop (16 * n) ram) i 0 h ∙ get_or-drop (16 * n) ram i 0

block_mb : (ram : List ℕ) (n : ℕ) → (block_at ram n).mb ≡ byte_at ram (16 * n + 1)
unfolding block_at decoded
block_mb ram n = block_byte ram n 1 (omega arith)

block_tab : (n k : ℕ) → k ≡ 16 → block_addresses n ≡ tab (λ i. 16 * n + i) k
unfolding block_addresses
block_tab n k e = ap (tab (λ i. 16 * n + i)) (sym e)

module _ (ram other : List ℕ) where
  -- both RAMs have the same bytes at these addresses
  abbrev pub Same : List ℕ → Type 0
  Same addresses = map (byte_at other) addresses ≡ map (byte_at ram) addresses

  pub same_head : (a : ℕ) (l : List ℕ) → Same (a ∷ l) → byte_at other a ≡ byte_at ram a
  same_head a l e = cc

  pub same_tail : (a : ℕ) (l : List ℕ) → Same (a ∷ l) → Same l
  same_tail a l e = cc

  pub same_first : (l r : List ℕ) → Same (l ++ r) → Same l
  same_first [] r e = refl
  same_first (a ∷ l) r e = rw (same_head a (l ++ r) e, same_first l r (same_tail a (l ++ r) e))

  pub same_rest : (l r : List ℕ) → Same (l ++ r) → Same r
  same_rest [] r e = e
  same_rest (a ∷ l) r e = same_rest l r (same_tail a (l ++ r) e)

  pub same_tab : (f : ℕ → ℕ) (n i : ℕ) → i < n → Same (tab f n) → byte_at other (f i) ≡ byte_at ram (f i)
  same_tab f zero i h e = absurd (not-suc-le-zero h)
  same_tab f (suc n) i h e = go (λ l. same_tab f n i l (same_first (tab f n) (f n ∷ []) e)) (dec_lt i n)
    where
      go : (i < n → byte_at other (f i) ≡ byte_at ram (f i)) → Dec (i < n) → byte_at other (f i) ≡ byte_at ram (f i)
      go ih (yes l) = ih l
      go ih (no l) =
          let k : i ≡ n = omega arith in
          rw k (same_head (f n) [] (same_rest (tab f n) (f n ∷ []) e))

  same_block_byte :
      (n k i : ℕ) → k ≡ 16 → i < k → Same (block_addresses n) → byte_at other (16 * n + i) ≡ byte_at ram (16 * n + i)
  same_block_byte n k i e h s = same_tab (λ j. 16 * n + j) k i h (rw (block_tab n k e) at s)

  pub same_block : (n : ℕ) → length other ≡ length ram → Same (block_addresses n) → block_at other n ≡ block_at ram n
  unfolding block_at
  same_block n long e =
      ap decoded
      (ext_get_or 0 (take 16 (drop (16 * n) other)) (take 16 (drop (16 * n) ram))
      (simp (length-take, length-drop, long))
      (λ i h.
      let l : i < 16 = omega (arith, length-take 16 (drop (16 * n) other)) in
      block_byte other n i l ∙ same_block_byte n 16 i refl l e ∙ sym (block_byte ram n i l)))

  -- the bytes used of the blocks on the way: SC and MB of each, and the last one whole
  same_sc_and_mb : (l : List ℕ) → Same (block_bytes_used l) → Same (sc_and_mb l)
  same_sc_and_mb [] e = refl
  same_sc_and_mb (n ∷ []) e =
      rw (
        same_block_byte n 16 1 refl (omega arith) e,
        ← add-zero (16 * n),
        same_block_byte n 16 0 refl (omega arith) e,
      )
  same_sc_and_mb (n ∷ m ∷ more) e =
      let used = block_bytes_used (m ∷ more) in
      let tail = same_tail (16 * n) ((16 * n + 1) ∷ used) e in
      rw (
        same_head (16 * n) ((16 * n + 1) ∷ used) e,
        same_head (16 * n + 1) used tail,
        same_sc_and_mb (m ∷ more) (same_tail (16 * n + 1) used tail),
      )

  same_last : (l : List ℕ) (n : ℕ) → Same (block_bytes_used (l ++ (n ∷ []))) → Same (block_addresses n)
  same_last [] n e = e
  same_last (m ∷ []) n e =
      same_tail (16 * m + 1) (block_addresses n) (same_tail (16 * m) ((16 * m + 1) ∷ block_addresses n) e)
  same_last (m ∷ k ∷ l) n e =
      let used = block_bytes_used (k ∷ (l ++ (n ∷ []))) in
      same_last (k ∷ l) n (same_tail (16 * m + 1) used (same_tail (16 * m) ((16 * m + 1) ∷ used) e))

  module _ (g : Registers) where
    begun_alike :
        (c d : Scan) → LoadAlike c d → Same (sc_and_mb (load_of g c)) → LoadAlike (begun g ram c) (begun g other d)
    begun_alike c d a = go (loads c) refl
      where
        go :
            (t : Bool) → loads c ≡ t
            → Same (sc_and_mb (cond t (loaded_number g c ∷ []) []))
            → LoadAlike (begun g ram c) (begun g other d)
        go true e h =
            let n = loaded_number g c in
            rw (begun_load g ram c e, begun_load g other d (alike_loads c d a ∙ e), alike_number g c d a)
            (loaded_alike g n (block_at ram n) (block_at other n)
            (block_sc other n ∙ same_head (16 * n) ((16 * n + 1) ∷ []) h ∙ sym (block_sc ram n))
            (block_mb other n
            ∙ same_head (16 * n + 1) [] (same_tail (16 * n) ((16 * n + 1) ∷ []) h)
            ∙ sym (block_mb ram n)))
        go false e h = rw (begun_on g ram c e, begun_on g other d (alike_loads c d a ∙ e)) (continued_alike c d a)

    next_alike :
        (c d : Scan) → LoadAlike (begun g ram c) (begun g other d) → LoadAlike (next_scan g ram c) (next_scan g other d)
    unfolding next_scan
    next_alike c d a = ended_alike (begun g ram c) (begun g other d) a

    module _ (c : Scan) where
      -- the blocks loaded in n scanlines, and the scan after these in each RAM
      abbrev way : ℕ → List ℕ
      way n = loaded_on_the_way g ram n c

      abbrev here : ℕ → Scan
      here n = scan_after g ram n c

      abbrev there : ℕ → Scan
      there n = scan_after g other n c

      sc_and_mb_before : (n : ℕ) (load : List ℕ) → Same (sc_and_mb (way n ++ load)) → Same (sc_and_mb (way n))
      sc_and_mb_before n load e =
          same_first (sc_and_mb (way n)) (sc_and_mb load) (rw (sc_and_mb_append (way n) load) at e)

      scans_alike : (n : ℕ) → Same (sc_and_mb (way n)) → LoadAlike (here n) (there n)
      scans_alike zero e = record { pending = refl; number = refl; left = refl; mb = refl }
      scans_alike (suc n) e =
          let load = load_of g (here n) in
          next_alike (here n) (there n)
          (begun_alike (here n) (there n) (scans_alike n (sc_and_mb_before n load e))
          (same_rest (sc_and_mb (way n)) (sc_and_mb load) (rw (sc_and_mb_append (way n) load) at e)))

      -- the scanline after n begins alike: it loads the last block, or goes on with the same scan
      pub begun_step :
          length other ≡ length ram
          → (n : ℕ)
          → (Same (block_bytes_used (way n)) → there n ≡ here n)
          → Same (block_bytes_used (way (suc n)))
          → begun g other (there n) ≡ begun g ram (here n)
      begun_step long n ih = go (loads (here n)) refl
        where
          go :
              (t : Bool) → loads (here n) ≡ t
              → Same (block_bytes_used (way n ++ cond t (loaded_number g (here n) ∷ []) []))
              → begun g other (there n) ≡ begun g ram (here n)
          go true e h =
              let k = loaded_number g (here n) in
              let a = scans_alike n (sc_and_mb_before n (k ∷ []) (same_sc_and_mb (way n ++ (k ∷ [])) h)) in
              rw (
                begun_load g ram (here n) e,
                begun_load g other (there n) (alike_loads (here n) (there n) a ∙ e),
                alike_number g (here n) (there n) a,
                same_block k long (same_last (way n) k h),
              )
          go false e h =
              rw (ih (rw (append-nil (way n)) at h), begun_on g ram (here n) e, begun_on g other (here n) e)

      next_same : (n : ℕ) → begun g other (there n) ≡ begun g ram (here n) → there (suc n) ≡ here (suc n)
      unfolding next_scan
      next_same n e = ap ended e

      pub scan_same : length other ≡ length ram → (n : ℕ) → Same (block_bytes_used (way n)) → there n ≡ here n
      scan_same long zero e = refl
      scan_same long (suc n) e = next_same n (begun_step long n (scan_same long n) e)

  -- the addresses that a dot names are the same, and what it shows
  pub same_addresses :
      (m : Mode) (p : Pointers) (j : ℕ) → Same (dot_addresses m ram p j) → dot_addresses m other p j ≡ dot_addresses m ram p j
  same_addresses VSYNC p j e = refl
  same_addresses PIXEL p j e = refl
  same_addresses ATTR p j e = refl
  same_addresses (CH width) p j e =
      rw (same_head p.ld1 (font_address width p.ld2 (byte_at ram p.ld1) ∷ []) e)
  same_addresses UNUSED p j e = refl
  same_addresses LPIXEL p j e = refl

  pub same_named :
      (active : Bool) (m : Mode) (p : Pointers) (j : ℕ)
      → Same (cond active (dot_addresses m ram p j) [])
      → cond active (dot_addresses m other p j) [] ≡ cond active (dot_addresses m ram p j) []
  same_named true m p j e = same_addresses m p j e
  same_named false m p j e = refl

  pub same_dot :
      (active : Bool) (m : Mode) (b : Block) (cs : Colours) (p : Pointers) (j : ℕ)
      → Same (cond active (dot_addresses m ram p j) [])
      → dot_in m active b cs (map (byte_at other) (dot_addresses m other p j)) j
      ≡ dot_in m active b cs (map (byte_at ram) (dot_addresses m ram p j)) j
  same_dot true m b cs p j e = rw (same_addresses m p j e, e)
  same_dot false VSYNC b cs p j e = refl
  same_dot false PIXEL b cs p j e = refl
  same_dot false ATTR b cs p j e = refl
  same_dot false (CH width) b cs p j e = refl
  same_dot false UNUSED b cs p j e = refl
  same_dot false LPIXEL b cs p j e = refl

  -- a dot of a scanline that begins alike
  module _ (g : Registers) (c d : Scan) (alike : begun g other d ≡ begun g ram c) (x : ℕ) where
    abbrev block : Block
    block = (begun g ram c).block

    abbrev pointers : Pointers
    pointers = pointers_after block (x / 16) (begun g ram c).at

    pub same_names :
        Same (named_in ram (begun g ram c) x) → named_in other (begun g other d) x ≡ named_in ram (begun g ram c) x
    same_names same = rw alike (same_named (active_at block (x / 16)) (mode_of block) pointers (x % 16) same)

    pub same_colour :
        Same (named_in ram (begun g ram c) x)
        → (e : ℕ)
        → get_or (line_dots g other d (λ _. e)) x 0 ≡ get_or (line_dots g ram c (λ _. e)) x 0
    same_colour same e = go (dec_lt x 736)
      where
        go : Dec (x < 736) → get_or (line_dots g other d (λ _. e)) x 0 ≡ get_or (line_dots g ram c (λ _. e)) x 0
        go (yes h) =
            line_dot g other d (λ _. e) x h
            ∙ rw alike
            (ap (λ (dot : Dot). dot_colour g block dot e)
            (same_dot (active_at block (x / 16)) (mode_of block) block (colours_of block) pointers (x % 16) same))
            ∙ sym (line_dot g ram c (λ _. e) x h)
        go (no h) =
            get_or-eq_default (line_dots g other d (λ _. e)) 0 (rw (length_line g other d (λ _. e)) (omega arith))
            ∙ sym (get_or-eq_default (line_dots g ram c (λ _. e)) 0 (rw (length_line g ram c (λ _. e)) (omega arith)))
