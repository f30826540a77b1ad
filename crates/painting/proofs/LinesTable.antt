-- A call that paints lines is not refused where no test of its table applies.
use mathlib.Core.Path.{◌≡◌}
use mathlib.Core.Bool.{Bool, false}
use mathlib.Core.List.{List}
use Prim.Native.Nat.{ℕ}
use Rattle.nick.specs.Refusals.{ill_formed, not_full, bad_dots, bad_records, bad_external, lines_refusal}
use Rattle.nick.specs.declared.State.{State}

pub not_refused :
    (five : Bool) (s : State) (ram : List ℕ) (h : ℕ) (dots records external : List ℕ)
    → ill_formed s.scan ≡ false
    → not_full ram ≡ false
    → five ≡ false
    → bad_dots h dots ≡ false
    → bad_records h records ≡ false
    → bad_external h external ≡ false
    → 0 ≡ lines_refusal five s ram h dots records external
unfolding lines_refusal
not_refused five s ram h dots records external formed full height places bytes e = rw (formed, full, height, places, bytes, e)
