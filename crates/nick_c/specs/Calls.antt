-- What each exported call answers, and what it leaves in the bytes that it was lent.
use Rattle.std.specs.Prelude.{ℕ, ◌≡◌, Bool, cond, List, eqb, length, replicate}
use Rattle.nick.specs.Registers.{fresh_state, write_refusal, written}
use Rattle.nick.specs.Painting.{paint}
use Rattle.nick.specs.Direct.{direct}
use Rattle.nick.specs.Listing.{list_answer, list_output}
use Rattle.nick.specs.declared.State.{State}
use Rattle.encoding.specs.Encoding.{encoded, state_of}
use Rattle.comparison.specs.Comparison.{comparison}
use Rattle.script.specs.Runs.{Ended, finished, refused, stopped, Run, refused_run, run}
use Rattle.packing.specs.Packed.{packed_answer, packed_listed}
use Rattle.packing.specs.Compared.{packed_compared, compared_bytes}
use Rattle.packing.specs.Runs.{packed_run, place_after}

-- a state has 32 bytes
abbrev pub is_state : List ℕ → Bool
is_state b = eqb (length b) 32

-- what a call answers for these bytes, n being its answer where they are a state: refusal 20 for another length, before all else
abbrev pub answer_for : List ℕ → ℕ → ℕ
answer_for b n = cond (is_state b) n 20

-- the state's bytes after a call: a refused call leaves them
abbrev pub kept : ℕ → State → List ℕ → List ℕ
kept refusal s b = cond (eqb refusal 0) (encoded s) b

-- the fresh state
pub record Freshens (b₀ b₁ : List ℕ) (r : ℕ) : Type 0 where
  pub answer : r ≡ answer_for b₀ 0
  pub state : b₁ ≡ kept (answer_for b₀ 0) fresh_state b₀

-- a register write
pub record Writes (b₀ : List ℕ) (port value : ℕ) (b₁ : List ℕ) (r : ℕ) : Type 0 where
  pub answer : r ≡ answer_for b₀ (write_refusal port)
  pub state : b₁ ≡ kept (answer_for b₀ (write_refusal port)) (written (state_of b₀) port value) b₀

-- what a painting leaves: the refusal, 0 for none, the state's bytes, and the two buffers
pub record Bytes : Type 0 where
  pub refusal : ℕ
  pub state : List ℕ
  pub dots : List ℕ
  pub records : List ℕ

-- a painting from a state of another length: the bytes and the dots stay, and every record byte is 255
abbrev pub without_state : List ℕ → List ℕ → List ℕ → Bytes
without_state b dots records = record { refusal = 20; state = b; dots = dots; records = replicate (length records) 255 }

-- the rules' painting, the state being given and left as bytes
abbrev pub with_state : List ℕ → List ℕ → ℕ → List ℕ → List ℕ → List ℕ → Bytes
with_state b ram h dots records external =
    let p = paint (state_of b) ram h dots records external in
    record {
      refusal = p.refusal;
      state = kept p.refusal p.state b;
      dots = p.dots;
      records = p.records;
    }

unfoldable pub paint_bytes : List ℕ → List ℕ → ℕ → List ℕ → List ℕ → List ℕ → Bytes
paint_bytes b ram h dots records external =
    cond (is_state b) (with_state b ram h dots records external) (without_state b dots records)

-- the promise of both paintings
pub record PaintsBytes (b₀ ram : List ℕ) (h : ℕ) (dots₀ records₀ external b₁ dots₁ records₁ : List ℕ) (r : ℕ) : Type 0 where
  pub answer : r ≡ (paint_bytes b₀ ram h dots₀ records₀ external).refusal
  pub state : b₁ ≡ (paint_bytes b₀ ram h dots₀ records₀ external).state
  pub dots : dots₁ ≡ (paint_bytes b₀ ram h dots₀ records₀ external).dots
  pub records : records₁ ≡ (paint_bytes b₀ ram h dots₀ records₀ external).records

-- the direct answer
unfoldable pub packed_dot : List ℕ → List ℕ → ℕ → ℕ → ℕ → ℕ
packed_dot b ram line dot external = answer_for b (packed_answer (direct (state_of b) ram line dot external))

-- the listing; a state of another length keeps the output
pub record ListsBytes (b ram out₀ out₁ : List ℕ) (r : ℕ) : Type 0 where
  pub answer : r ≡ answer_for b (packed_listed (list_answer (state_of b).registers ram out₀))
  pub output : out₁ ≡ cond (is_state b) (list_output (state_of b).registers ram out₀) out₀

-- the answer of a comparison has 14 bytes
abbrev pub is_answer : List ℕ → Bool
is_answer b = eqb (length b) 14

-- the comparison of a capture with a frame; an answer of another length is refusal 20, before all else
pub record ComparesBytes (h : ℕ) (capture capture_records frame frame_records b₀ b₁ : List ℕ) (r : ℕ) : Type 0 where
  pub answer : r ≡ cond (is_answer b₀) (packed_compared (comparison h capture capture_records frame frame_records)) 20
  pub bytes : b₁ ≡ cond (is_answer b₀) (compared_bytes (comparison h capture capture_records frame frame_records) b₀) b₀

-- the rules' run from a state's bytes; bytes of another length are refusal 20, before all else, as the rules refuse a run before
-- its first step
unfoldable pub run_from : List ℕ → List ℕ → List ℕ → List ℕ → List ℕ → List ℕ → Run
run_from b ram script dots records external =
    cond (is_state b) (run (state_of b) ram script dots records external) (refused_run 20 (state_of b) dots records)

-- the state's bytes after a run: those of the state as it then stands; refused before its first step, a run leaves them
abbrev pub ran_state : Ended → State → List ℕ → List ℕ
ran_state finished s b = encoded s
ran_state (refused n) s b = b
ran_state (stopped n place) s b = encoded s

-- what a run answers, and leaves in the bytes, the buffers and the place that it was lent
pub record RunsBytes (x : Run) (b₀ : List ℕ) (place₀ : ℕ) (b₁ dots₁ records₁ : List ℕ) (place₁ r : ℕ) : Type 0 where
  pub answer : r ≡ packed_run x.ended x.bench x.request
  pub state : b₁ ≡ ran_state x.ended x.bench.state b₀
  pub dots : dots₁ ≡ x.dots
  pub records : records₁ ≡ x.records
  pub place : place₁ ≡ place_after x.ended place₀
