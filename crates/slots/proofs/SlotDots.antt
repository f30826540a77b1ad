-- A slot painted with the dots of what it fetched is painted by the rules.
use Rattle.std.proofs.Common.{◌≡◌, ℕ, ◌+◌, ◌*◌, ◌<◌, List, sym}
use Rattle.lists.proofs.Laws.{tab_same}
use Rattle.nick.specs.Numbers.{byte_at}
use Rattle.nick.specs.Slots.{mode_of}
use Rattle.nick.specs.External.{dot_colour}
use Rattle.nick.specs.Scanline.{active_at, dot_at, slot_dots}
use Rattle.nick.specs.declared.Registers.{Registers}
use Rattle.nick.specs.declared.Pointers.{Pointers}
use Rattle.nick.specs.declared.Block.{Block}
use Rattle.fetch.specs.Fetches.{fetched_at, slot_dot}
use Rattle.fetch.specs.declared.Fetched.{Fetched}
use Rattle.fetch.proofs.SlotDots.{mode_dot}
use Rattle.slots.specs.Shows.{cells_dots}

module _ (ram : List ℕ) (b : Block) (n : ℕ) (p : Pointers) where
  -- what the slot fetches
  abbrev fetched : Fetched
  fetched = fetched_at (active_at b n) (mode_of b) ram b p

  pub slot_shown : (g : Registers) (external : List ℕ)
      → byte_at ram p.ld1 < 256
      → slot_dots g ram b n p (byte_at external) ≡ cells_dots g b (mode_of b) fetched.cells external (16 * n)
  unfolding cells_dots slot_dots
  slot_shown g external l =
      tab_same (λ j. dot_colour g b (dot_at (active_at b n) ram b p j) (byte_at external (16 * n + j)))
      (λ j. slot_dot g b (mode_of b) fetched.cells j (byte_at external (16 * n + j))) 16
      (λ j h. sym (mode_dot g ram b p (active_at b n) (mode_of b) j (byte_at external (16 * n + j)) h l))
