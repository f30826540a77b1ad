-- A run's answer as a number, and the place that is written beside it.
use Rattle.std.specs.Prelude.{ℕ, ◌+◌, ◌*◌, ◌^◌, Bool, true, false}
use Rattle.lists.specs.Number.{number}
use Rattle.script.specs.Runs.{Ended, finished, refused, stopped}
use Rattle.script.specs.declared.Bench.{Bench}

-- the refusal, 0 for none
abbrev pub refusal_of : Ended → ℕ
refusal_of finished = 0
refusal_of (refused n) = n
refusal_of (stopped n place) = n

-- whether the run stopped at a step
abbrev pub is_stopped : Ended → Bool
is_stopped finished = false
is_stopped (refused n) = false
is_stopped (stopped n place) = true

-- bits 0 to 7 the refusal, 8 latch, 9 enable, 10 request, 11 stopped at a step
abbrev pub packed_run : Ended → Bench → Bool → ℕ
packed_run ended b request =
    refusal_of ended
    + 2 ^ 8 * number b.latch
    + 2 ^ 9 * number b.enable
    + 2 ^ 10 * number request
    + 2 ^ 11 * number (is_stopped ended)

-- the number lent for the place, written only where bit 11 is set
abbrev pub place_after : Ended → ℕ → ℕ
place_after finished before = before
place_after (refused n) before = before
place_after (stopped n place) before = place
