-- Scanlines in order: k + n of them are k, and then n from where those ended.
use mathlib.Core.Path.{◌≡◌, refl, ◌∙◌}
use mathlib.Core.List.{List}
use Prim.Native.Nat.{ℕ, zero, suc, ◌+◌}
use native.Mathlib.Nat.{add-zero, add-suc}
use Rattle.nick.specs.Scanline.{next_scan, scan_after}
use Rattle.nick.specs.Record.{next_state, state_after}
use Rattle.nick.specs.declared.Registers.{Registers}
use Rattle.nick.specs.declared.Scan.{Scan}
use Rattle.nick.specs.declared.State.{State}

pub scan_add :
    (g : Registers) (ram : List ℕ) (k n : ℕ) (c : Scan)
    → scan_after g ram (k + n) c ≡ scan_after g ram n (scan_after g ram k c)
scan_add g ram k zero c = rw (add-zero k)
scan_add g ram k (suc n) c = rw (add-suc k n, scan_add g ram k n c)

pub state_add :
    (ram : List ℕ) (k n : ℕ) (s : State) → state_after ram (k + n) s ≡ state_after ram n (state_after ram k s)
state_add ram k zero s = rw (add-zero k)
state_add ram k (suc n) s = rw (add-suc k n, state_add ram k n s)

registers_step : (ram : List ℕ) (s : State) → (next_state ram s).registers ≡ s.registers
unfolding next_state
registers_step ram s = refl

scan_step : (ram : List ℕ) (s : State) → (next_state ram s).scan ≡ next_scan s.registers ram s.scan
unfolding next_state
scan_step ram s = refl

-- scanlines change no register
pub registers_kept : (ram : List ℕ) (n : ℕ) (s : State) → (state_after ram n s).registers ≡ s.registers
registers_kept ram zero s = refl
registers_kept ram (suc n) s = registers_step ram (state_after ram n s) ∙ registers_kept ram n s

-- the state's scan goes by the registers, RAM and itself alone
pub scan_of_state :
    (ram : List ℕ) (n : ℕ) (s : State) → (state_after ram n s).scan ≡ scan_after s.registers ram n s.scan
scan_of_state ram zero s = refl
scan_of_state ram (suc n) s =
    scan_step ram (state_after ram n s) ∙ rw (registers_kept ram n s, scan_of_state ram n s)
