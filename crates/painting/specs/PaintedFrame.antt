-- What the painting of a frame and its lines answer, as equations with the rules.
use Rattle.std.specs.Prelude.{Result, ℕ, ◌+◌, ◌*◌, ◌<◌, ◌≤◌, ◌≡◌, List, ◌++◌, length, take, drop}
use Rattle.nick.specs.Sizes.{record_bytes}
use Rattle.nick.specs.Scanline.{line_dots}
use Rattle.nick.specs.Record.{line_record, next_state, state_after}
use Rattle.nick.specs.Refusals.{Formed, refusal_in}
use Rattle.nick.specs.Painting.{external_at, frame_dots, frame_records, paint}
use Rattle.nick.specs.declared.refusal.Refusal.{Refusal}
use Rattle.nick.specs.declared.State.{State}

-- there is room in the buffers for line y
pub record HasRoom (y : ℕ) (dots records : List ℕ) : Type 0 where
  pub line : y < 1024
  pub places : 736 * y + 736 ≤ length dots
  pub bytes : record_bytes * y + record_bytes ≤ length records

-- line y painted into its parts of the buffers
pub record NextLine (s : State) (ram : List ℕ) (y : ℕ) (external dots₀ dots₁ records₀ records₁ : List ℕ) (r : State) : Type 0 where
  pub dots :
      dots₁
      ≡ take (736 * y) dots₀
      ++ (line_dots s.registers ram s.scan (external_at external y) ++ drop 736 (drop (736 * y) dots₀))
  pub records : records₁ ≡ take (record_bytes * y) records₀ ++ (line_record ram s ++ drop record_bytes (drop (record_bytes * y) records₀))
  pub state : r ≡ next_state ram s
  pub formed : Formed r.scan

-- all lines of a frame painted
pub record Frame (s : State) (ram : List ℕ) (h : ℕ) (external dots₁ records₁ : List ℕ) (r : State) : Type 0 where
  pub dots : dots₁ ≡ frame_dots ram external h s
  pub records : records₁ ≡ frame_records ram h s
  pub state : r ≡ state_after ram h s

-- The promise of both paintings: the answer, the state, the dots and the records are those of the rules' painting.
pub record Paints (s : State) (ram : List ℕ) (h : ℕ) (dots₀ records₀ external dots₁ records₁ : List ℕ) (t : State) (r : Result (Unit {0}) Refusal) : Type 0 where
  pub refusal : refusal_in r ≡ (paint s ram h dots₀ records₀ external).refusal
  pub state : t ≡ (paint s ram h dots₀ records₀ external).state
  pub dots : dots₁ ≡ (paint s ram h dots₀ records₀ external).dots
  pub records : records₁ ≡ (paint s ram h dots₀ records₀ external).records
