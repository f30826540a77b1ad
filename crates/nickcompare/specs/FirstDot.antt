-- Where the first dot that differs lies.
use Rattle.std.specs.Prelude.{ℕ, ◌+◌, ◌*◌, ◌<◌, Option, IfSome, List, length}
use Rattle.comparison.specs.declared.Place.{Place}

-- the first dot, if there is one, is in the buffer
abbrev pub LiesIn : Option Place → List ℕ → Type 0
LiesIn first dots = IfSome first (λ place. 736 * place.line + place.dot < length dots)
