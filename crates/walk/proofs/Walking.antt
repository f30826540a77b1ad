-- Laws on the walk: which scanlines are stepped together, and the well-formed scan that they leave.
use Rattle.std.proofs.Common.{◌≡◌, ℕ, zero, suc, ◌<◌, ◌≤◌, min, Bool, true, false, cond, List, refl, lt_irrefl, arith}
use Rattle.nick.specs.Blocks.{begun}
use Rattle.nick.specs.Scanline.{scan_after}
use Rattle.nick.specs.Refusals.{Formed}
use Rattle.nick.specs.declared.Registers.{Registers}
use Rattle.nick.specs.declared.Scan.{Scan}
use Rattle.nick.proofs.WellFormed.{begun_some, begun_formed}
use Rattle.walk.specs.Steps.{skipped}
use Rattle.walk.proofs.ModeLines.{lines_inside}

-- a well-formed scan begins with a scanline left
pub begun_left : (g : Registers) (ram : List ℕ) (c : Scan) → Formed c → g.lpl < 256 → (begun g ram c).block.sc < 256 → (1 ≤ (begun g ram c).left) × ((begun g ram c).left ≤ 256)
begun_left g ram c f l s = (begun_some g ram c s, (begun_formed g ram c l f).left)

-- how many of the next scanlines are stepped together, from a scan that has begun
abbrev pub stepped : Scan → ℕ → ℕ
stepped d lines = cond d.pending 1 (min d.left lines)

pub lines_together : (d : Scan) (lines : ℕ) → 1 ≤ lines → 1 ≤ d.left → (1 ≤ stepped d lines) × (stepped d lines ≤ lines) × (stepped d lines ≤ d.left)
lines_together d lines h l = go d.pending
  where
    go : (t : Bool) → (1 ≤ cond t 1 (min d.left lines)) × (cond t 1 (min d.left lines) ≤ lines) × (cond t 1 (min d.left lines) ≤ d.left)
    go true = (omega arith, h, l)
    go false = (omega arith, omega arith, omega arith)

none_pending : (d : Scan) (lines : ℕ) → 1 < stepped d lines → d.pending ≡ false
none_pending d lines = go d.pending
  where
    go : (t : Bool) → 1 < cond t 1 (min d.left lines) → t ≡ false
    go true k = absurd (lt_irrefl 1 k)
    go false k = refl

module _ (g : Registers) (ram : List ℕ) (c : Scan) where
  -- they end at the closed form
  pub scan_together : (lines n : ℕ) → n ≡ stepped (begun g ram c) lines → 1 ≤ lines → 1 ≤ (begun g ram c).left → (begun g ram c).at.ld1 < 65536 → (begun g ram c).at.ld2 < 65536 → scan_after g ram n c ≡ skipped (begun g ram c) n
  scan_together lines n e h l x y = go n e
    where
      go : (m : ℕ) → m ≡ stepped (begun g ram c) lines → scan_after g ram m c ≡ skipped (begun g ram c) m
      go zero q = let k = lines_together (begun g ram c) lines h l in absurd (omega (arith, k.0))
      go (suc m) q =
          let k = lines_together (begun g ram c) lines h l in
          lines_inside g ram c (record { ld1 = x; ld2 = y }) m (λ p. none_pending (begun g ram c) lines (omega arith)) (omega (arith, k.2))

  -- and leave a well-formed scan
  pub formed_together : (n : ℕ) → Formed c → g.lpl < 256 → Formed (skipped (begun g ram c) n)
  unfolding skipped
  formed_together n f l =
      let d : Formed (begun g ram c) = begun_formed g ram c l f in
      record { number = d.number; left = omega (arith, d.left) }
