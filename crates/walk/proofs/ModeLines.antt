-- Laws on several scanlines: those of one mode line in one step.
use Rattle.std.proofs.Common.{◌≡◌, ℕ, zero, suc, ◌-◌, ◌*◌, ◌<◌, Bool, true, false, cond, List, refl, ap, ◌∙◌, append-nil, add-zero, zero-lt-suc, suc-mul, one-mul, arith, ne_eqb}
use Rattle.nick.specs.Numbers.{up}
use Rattle.nick.specs.Blocks.{vres, loads, loaded_number, block_at, loaded, continued, begun}
use Rattle.nick.specs.Slots.{mode_of, line_pointers}
use Rattle.nick.specs.Scanline.{ended, next_scan, scan_after, pointers_after}
use Rattle.nick.specs.Direct.{load_of, loaded_on_the_way}
use Rattle.nick.specs.declared.Registers.{Registers}
use Rattle.nick.specs.declared.Pointers.{Pointers}
use Rattle.nick.specs.declared.Block.{Block}
use Rattle.nick.specs.declared.Scan.{Scan}
use Rattle.walk.specs.Steps.{steps_of, advanced, rise1, rise2, line_rise2, skipped}
use Rattle.walk.proofs.Rises.{SixteenBits, advanced_twice, advanced_sixteen, line_advances, pointers_after_lem}

cond_same {ℓ} : {A : Type ℓ} (t : Bool) (a : A) → cond t a a ≡ a
cond_same true a = refl
cond_same false a = refl

cond_twice {ℓ} : {A : Type ℓ} (t : Bool) (a b : A) → cond t (cond t a b) b ≡ cond t a b
cond_twice true a b = refl
cond_twice false a b = refl

-- a scan that begins, by whether it loads
abbrev pub begun_by : Bool → Registers → List ℕ → Scan → Scan
begun_by t g ram c = cond t (loaded g (loaded_number g c) (block_at ram (loaded_number g c))) (continued c)

-- LD1 of a scan that has begun stands at its restart
restarted : Scan → Type 0
restarted d = cond (vres d.block) d.at.ld1 d.block.start.ld1 ≡ d.at.ld1

begun_restarted : (g : Registers) (ram : List ℕ) (c : Scan) → restarted (begun g ram c)
unfolding restarted begun continued loaded
begun_restarted g ram c = go (loads c)
  where
    go : (t : Bool) → restarted (begun_by t g ram c)
    go true = cond_same (vres (block_at ram (loaded_number g c))) (block_at ram (loaded_number g c)).start.ld1
    go false = cond_twice (vres c.block) c.at.ld1 c.block.start.ld1

-- a whole scanline moves the pointers by the mode's steps
pub line_moves : (b : Block) (p : Pointers) → SixteenBits p → line_pointers (mode_of b) (pointers_after b 46 p) ≡ advanced (rise1 b 46) (line_rise2 b) p
line_moves b p h =
    rw (pointers_after_lem b 46 p h, line_advances (mode_of b) (advanced (rise1 b 46) (rise2 b 46) p) (advanced_sixteen (rise1 b 46) (rise2 b 46) p), advanced_twice (rise1 b 46) (rise2 b 46) 0 (steps_of (mode_of b)).line p, add-zero (rise1 b 46))

-- one more scanline of a mode line, with VRES or without
line_more : (v : Bool) (r₁ r₂ n s : ℕ) (p : Pointers) → cond v p.ld1 s ≡ p.ld1 → advanced r₁ r₂ (record { ld1 = cond v (up (cond v n 1 * r₁) p.ld1) s; ld2 = up (n * r₂) p.ld2 }) ≡ advanced (cond v (suc n) 1 * r₁) (suc n * r₂) p
unfolding advanced
line_more true r₁ r₂ n s p h = rw (suc-mul n r₁, suc-mul n r₂) (advanced_twice (n * r₁) (n * r₂) r₁ r₂ p)
line_more false r₁ r₂ n s p h = rw (suc-mul n r₂, one-mul r₁, h) (ap (λ (q : Pointers). record { ld1 = up r₁ p.ld1; ld2 = q.ld2 }) (advanced_twice (n * r₁) (n * r₂) r₁ r₂ p))

-- the restart of LD1 keeps it within 16 bits
restart_sixteen : (v : Bool) (s : ℕ) (p : Pointers) (x y : ℕ) → SixteenBits p → cond v p.ld1 s ≡ p.ld1 → SixteenBits (record { ld1 = cond v (up x p.ld1) s; ld2 = up y p.ld2 })
restart_sixteen true s p x y h e = record { ld1 = omega arith; ld2 = omega arith }
restart_sixteen false s p x y h e = record { ld1 = rw e h.ld1; ld2 = omega arith }

-- a scanline's end, by the mode's steps
pub ended_moves : (d : Scan) → SixteenBits d.at → ended d ≡ record { pending = d.pending; block = d.block; number = d.number; at = advanced (rise1 d.block 46) (line_rise2 d.block) d.at; left = d.left - 1 }
unfolding ended
ended_moves d h = rw (line_moves d.block d.at h)

-- the first scanline of a step
skip_one : (d : Scan) → SixteenBits d.at → ended d ≡ skipped d 1
unfolding skipped
skip_one d h =
    ended_moves d h ∙ rw (cond_same {A = ℕ} (vres d.block) 1, one-mul (rise1 d.block 46), one-mul (line_rise2 d.block))

-- a further one
skip_more : (d : Scan) (n : ℕ) → SixteenBits d.at → restarted d → ended (continued (skipped d n)) ≡ skipped d (suc n)
unfolding skipped continued advanced restarted
skip_more d n h e =
    let b = d.block in
    let left : d.left - n - 1 ≡ d.left - suc n = omega arith in
    ended_moves (continued (skipped d n)) (restart_sixteen (vres b) b.start.ld1 d.at (cond (vres b) n 1 * rise1 b 46) (n * line_rise2 b) h e)
    ∙ rw (line_more (vres b) (rise1 b 46) (line_rise2 b) n b.start.ld1 d.at e, left)

-- inside a mode line no block is loaded
loads_none : (d : Scan) (n : ℕ) → d.pending ≡ false → n < d.left → loads (skipped d n) ≡ false
unfolding skipped
loads_none d n p h = rw (p, ne_eqb (d.left - n) 0 (λ e. omega arith))

-- so the next scanline of it only restarts LD1
next_inside : (g : Registers) (ram : List ℕ) (c : Scan) → loads c ≡ false → next_scan g ram c ≡ ended (continued c)
unfolding next_scan begun
next_inside g ram c h = rw h

module _ (g : Registers) (ram : List ℕ) (c : Scan) (h : SixteenBits (begun g ram c).at) where
  -- n + 1 scanlines of one mode line, the first of which may load its block
  pub lines_inside : (n : ℕ) → (0 < n → (begun g ram c).pending ≡ false) → n < (begun g ram c).left → scan_after g ram (suc n) c ≡ skipped (begun g ram c) (suc n)
  unfolding next_scan
  lines_inside zero p l = skip_one (begun g ram c) h
  lines_inside (suc n) p l =
      let d = begun g ram c in
      let none = loads_none d (suc n) (p (zero-lt-suc n)) l in
      ap (next_scan g ram) (lines_inside n (λ _. p (zero-lt-suc n)) (omega arith)) ∙ next_inside g ram (skipped d (suc n)) none ∙ skip_more d (suc n) h (begun_restarted g ram c)

  -- the blocks loaded in them are those that the first of them loads
  pub loaded_inside : (n : ℕ) → (0 < n → (begun g ram c).pending ≡ false) → n < (begun g ram c).left → loaded_on_the_way g ram (suc n) c ≡ load_of g c
  loaded_inside zero p l = refl
  loaded_inside (suc n) p l =
      let d = begun g ram c in
      let p' : 0 < n → d.pending ≡ false = λ _. p (zero-lt-suc n) in
      let l' : n < d.left = omega arith in
      rw (loaded_inside n p' l', lines_inside n p' l', loads_none d (suc n) (p (zero-lt-suc n)) l) (append-nil (load_of g c))
