-- What writing text into a buffer leaves. Bytes past the buffer's end are counted and not stored.
use Rattle.std.specs.Prelude.{ℕ, ◌+◌, ◌-◌, ◌^◌, List, length, take}
use Rattle.std.proofs.lemmas.List.Edits.{sets}
use Rattle.text.specs.declared.Writer.{Writer}

-- the part of a text that is counted: the place after it is a usize, at most 2 ^ 64 - 1
abbrev pub counted : Writer → List ℕ → List ℕ
counted w text = take (2 ^ 64 - 1 - w.end) text

-- text is stored from the writer's place on, which is then after it; what is not counted is dropped
unfoldable pub wrote : Writer → List ℕ → Writer
wrote w text = record { out = record w.out { now = sets w.out.now w.end (counted w text) }; end = w.end + length (counted w text) }
