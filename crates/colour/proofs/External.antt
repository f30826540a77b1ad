-- The rule's entry at each priority, by tests of the priority and of EC.
use Rattle.std.proofs.Common.{◌≡◌, refl, ℕ, zero, suc, ◌/◌, ◌%◌, ◌<◌, Bool, true, cond, ◌||◌, eqb, ltb, arith}
use Rattle.nick.specs.External.{priority_gives}
use Rattle.nick.proofs.Bits.{clear_not_set}

pub gives_by_test :
    (priority : ℕ) (high : Bool) (ec : ℕ) → priority < 4 →
    priority_gives priority high ec
    ≡ cond (eqb priority 0) true (cond (eqb priority 1) high (high || cond (eqb priority 2) (ltb ec 8) (eqb (ec / 4 % 2) 0)))
unfolding priority_gives
gives_by_test zero high ec h = refl
gives_by_test (suc zero) high ec h = refl
gives_by_test (suc (suc zero)) high ec h = refl
gives_by_test (suc (suc (suc zero))) high ec h = rw (clear_not_set (ec / 4))
gives_by_test (suc (suc (suc (suc n)))) high ec h = absurd (omega arith)
