-- A well-formed state stays well-formed, painting after painting.
use mathlib.Core.Path.{◌≡◌}
use mathlib.Core.List.{List}
use Prim.Native.Nat.{ℕ, ◌<◌}
use mathlib.Core.Bool.{cond}
use lib.Dec.{eqb}
use Rattle.nick.specs.Record.{state_after}
use Rattle.nick.specs.Refusals.{Formed}
use Rattle.nick.specs.Painting.{paint}
use Rattle.nick.specs.declared.State.{State}
use Rattle.nick.proofs.WellFormed.{formed_after}
use Rattle.laws.proofs.StatesAfter.{registers_kept, scan_of_state}
use Rattle.laws.proofs.Paintings.{paint_leaves}

state_formed :
    (ram : List ℕ) (n : ℕ) (s : State) → s.registers.lpl < 256 → Formed s.scan
    → Formed (state_after ram n s).scan
state_formed ram n s l f = rw (scan_of_state ram n s) (formed_after s.registers ram n s.scan l f)

module _ (s : State) (ram : List ℕ) (h : ℕ) (dots records external : List ℕ) where
  -- how many lines the painting adds
  abbrev added : ℕ
  added = cond (eqb (paint s ram h dots records external).refusal 0) h 0

  -- a painting, accepted or refused, changes no register
  pub painting_registers : (paint s ram h dots records external).state.registers ≡ s.registers
  painting_registers = rw (paint_leaves s ram h dots records external).state (registers_kept ram added s)

  -- and leaves a well-formed state well-formed
  pub painting_formed :
      s.registers.lpl < 256 → Formed s.scan → Formed (paint s ram h dots records external).state.scan
  painting_formed l f = rw (paint_leaves s ram h dots records external).state (state_formed ram added s l f)
