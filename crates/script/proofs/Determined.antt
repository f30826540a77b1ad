-- What is said of how a run ended determines it: answers that say the same are the same.
use mathlib.Core.Path.{◌≡◌, refl, ap}
use Rattle.std.specs.Prelude.{Result, Ok, Err}
use Rattle.nick.specs.Refusals.{number_of}
use Rattle.nick.proofs.Determined.{number_determines}
use Rattle.script.specs.Answers.{ended_by}
use Rattle.script.specs.declared.Failure.{Failure}
use Rattle.script.specs.declared.Failure.TheVariants.{Refused, Stopped}

pub ended_determines : (a b : Result (Unit {0}) Failure) → ended_by a ≡ ended_by b → a ≡ b
ended_determines (Ok u) (Ok v) e = refl
ended_determines (Ok u) (Err (Refused q)) e = cc
ended_determines (Ok u) (Err (Stopped q n)) e = cc
ended_determines (Err (Refused r)) (Ok u) e = cc
ended_determines (Err (Stopped r m)) (Ok u) e = cc
ended_determines (Err (Refused r)) (Err (Stopped q n)) e = cc
ended_determines (Err (Stopped r m)) (Err (Refused q)) e = cc
ended_determines (Err (Refused r)) (Err (Refused q)) e =
    let same : number_of r ≡ number_of q = cc in
    ap (λ x. Err (Refused x)) (number_determines r q same)
ended_determines (Err (Stopped r m)) (Err (Stopped q n)) e =
    let same : number_of r ≡ number_of q = cc in
    let place : m ≡ n = cc in
    rw (number_determines r q same, place) refl
