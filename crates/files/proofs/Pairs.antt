-- The bytes of the pairs that bytes are cut into.
use Rattle.std.proofs.Common.{◌≡◌, ℕ, zero, suc, ◌+◌, ◌*◌, ◌<◌, List, [], slice_index_or, arith, drop, ap, ◌∙◌}
use Rattle.std.specs.Simd.{first_chunks}
use Rattle.std.proofs.Math.Seq.{get_or-take, get_or-drop}

pub pair_at :
    (k i j : ℕ) (bytes : List ℕ)
    → i < k → j < 2 → slice_index_or (slice_index_or (first_chunks 2 k bytes) i []) j 0 ≡ slice_index_or bytes (2 * i + j) 0
pair_at zero i j bytes h l = absurd (omega (arith, h))
pair_at (suc k) zero j bytes h l = get_or-take 2 bytes j 0 l ∙ ap (λ n. slice_index_or bytes n 0) (omega arith)
pair_at (suc k) (suc i) j bytes h l =
    pair_at k i j (drop 2 bytes) (omega (arith, h)) l
    ∙ get_or-drop 2 bytes (2 * i + j) 0
    ∙ ap (λ n. slice_index_or bytes n 0) (omega arith)
