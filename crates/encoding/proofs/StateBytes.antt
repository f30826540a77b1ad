-- The state's bytes hold the state: encoding then decoding gives it back.
use mathlib.Core.Path.{◌≡◌}
use mathlib.Core.Bool.{Bool}
use mathlib.Core.List.{List, [], ◌∷◌}
use Prim.Native.Nat.{ℕ, ◌+◌, ◌*◌}
use native.Mathlib.Omega.{arith}
use lib.ListN.{length}
use Rattle.lists.specs.Number.{number}
use Rattle.lists.proofs.Laws.{tab_places}
use Rattle.nick.specs.Numbers.{is_set, byte_at}
use Rattle.nick.proofs.Bits.{pair}
use Rattle.nick.specs.Blocks.{decoded}
use Rattle.nick.specs.declared.State.{State}
use Rattle.encoding.specs.Encoding.{flags_of, encoded, scan_of, state_of}

-- a list of eight, place by place
pub eight : (xs : List ℕ) → length xs ≡ 8 → byte_at xs 0 ∷ byte_at xs 1 ∷ byte_at xs 2 ∷ byte_at xs 3 ∷ byte_at xs 4 ∷ byte_at xs 5 ∷ byte_at xs 6 ∷ byte_at xs 7 ∷ [] ≡ xs
eight xs h = rw h at (tab_places 0 xs)

-- each flag is in its bit
pub flag_bits : (p v y : Bool) → (is_set 0 (number p + 2 * number v + 4 * number y) ≡ p) × (is_set 1 (number p + 2 * number v + 4 * number y) ≡ v) × (is_set 2 (number p + 2 * number v + 4 * number y) ≡ y)
flag_bits p v y = grind arith

-- encoding then decoding gives the state back, for every state that has eight colours, as a state's type says
pub round_trip : (s : State) → length s.scan.block.col ≡ 8 → state_of (encoded s) ≡ s
unfolding encoded state_of scan_of flags_of decoded
round_trip s h =
    let bits = flag_bits s.scan.pending s.virq s.sync in
    rw (
      bits.0,
      bits.1,
      bits.2,
      pair s.scan.number,
      pair s.scan.at.ld1,
      pair s.scan.at.ld2,
      pair s.scan.left,
      pair s.scan.block.start.ld1,
      pair s.scan.block.start.ld2,
      eight s.scan.block.col h,
    )
