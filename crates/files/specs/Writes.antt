-- Register writes in a row, as pairs of bytes: a port and a value.
use Rattle.std.specs.Prelude.{ℕ, zero, suc, ◌+◌, ◌*◌, ◌/◌, min, cond, List, eqb, length, get_or}
use Rattle.nick.specs.Registers.{fresh_state, write_refusal, written}
use Rattle.nick.specs.declared.State.{State}

-- what writes leave: the number of a refusal, 0 for none, and the state
pub record Written : Type 0 where
  pub refusal : ℕ
  pub state : State

-- "Where several apply, the smallest number is given."
unfoldable pub given : ℕ → ℕ → ℕ
given a b = cond (eqb a 0) b (cond (eqb b 0) a (min a b))

-- one write more
unfoldable pub written_next : Written → ℕ → ℕ → Written
written_next w port value = record {
  refusal = given w.refusal (write_refusal port);
  state = written w.state port value;
}

-- the first n writes, from the fresh state
abbrev pub written_all : List ℕ → ℕ → Written
written_all bytes zero = record { refusal = 0; state = fresh_state }
written_all bytes (suc n) = written_next (written_all bytes n) (get_or bytes (2 * n) 0) (get_or bytes (2 * n + 1) 0)

-- all writes; an odd byte is left out
abbrev pub written_by : List ℕ → Written
written_by bytes = written_all bytes (length bytes / 2)

-- what a program makes of its writes: where one is refused, what is told of its number; else what is done from the state that
-- they left
unfoldable pub after_writes : {A : Type 0} → List ℕ → (ℕ → A) → (State → A) → A
after_writes bytes told done = cond (eqb (written_by bytes).refusal 0) (done (written_by bytes).state) (told (written_by bytes).refusal)
