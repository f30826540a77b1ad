-- The painting after the register writes of a file.
use Rattle.std.specs.Prelude.{ℕ, ◌≡◌, List}
use Rattle.nick.specs.Painting.{paint}
use Rattle.files.specs.Writes.{after_writes}

-- a refused write's number, and the buffers as they were; else the rules' painting from the state that the writes left
pub record PaintsAfter (writes ram : List ℕ) (h : ℕ) (dots₀ records₀ external dots₁ records₁ : List ℕ) (r : ℕ) : Type 0 where
  pub refusal : r ≡ after_writes writes (λ n. n) (λ s. (paint s ram h dots₀ records₀ external).refusal)
  pub dots : dots₁ ≡ after_writes writes (λ n. dots₀) (λ s. (paint s ram h dots₀ records₀ external).dots)
  pub records : records₁ ≡ after_writes writes (λ n. records₀) (λ s. (paint s ram h dots₀ records₀ external).records)
