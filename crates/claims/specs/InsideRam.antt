-- Document 02, item 9: "Show that no well-formed state, registers and RAM ever lead to" refusal 11. The number was document 01's
-- "a block to be loaded would run past address 65,535", for painting and the direct answer. No call gives it.
use Rattle.std.specs.Prelude.{ℕ, ◌+◌, ◌*◌, ◌<◌, ◌≡◌, Bool, false, ◌||◌, List, [], ◌∷◌, ltb}
use Rattle.nick.specs.Refusals.{ill_formed}
use Rattle.nick.specs.Direct.{loaded_on_the_way}
use Rattle.nick.specs.declared.State.{State}

-- a block, by its number, runs past address 65,535: the last of its sixteen bytes lies after it
abbrev pub runs_past_end : ℕ → Bool
runs_past_end number = ltb 65535 (16 * number + 15)

-- one of these blocks does; mathlib's `any` would say it, but does not compute outside its own library
abbrev pub any_past_end : List ℕ → Bool
any_past_end [] = false
any_past_end (number ∷ more) = runs_past_end number || any_past_end more

-- what refusal 11 said of the next n scanlines: "a block to be loaded would run past address 65,535"
abbrev pub past_end : State → List ℕ → ℕ → Bool
past_end s ram n = any_past_end (loaded_on_the_way s.registers ram n s.scan)

-- It is met by no RAM and no number of scanlines, from a well-formed state whose registers are bytes. Of the registers LPL alone
-- has to be one: of LPH the base takes no more than LPH mod 16.
abbrev pub NeverPastEnd : Type 0
NeverPastEnd =
    (s : State) (ram : List ℕ) (n : ℕ)
    → s.registers.lpl < 256
    → ill_formed s.scan ≡ false
    → past_end s ram n ≡ false
