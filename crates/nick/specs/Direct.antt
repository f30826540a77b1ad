-- Document 01, "The direct answer": one dot's colour, the addresses that it names, and what it depends on.
use Rattle.std.specs.Prelude.{ℕ, zero, suc, Result, Ok, Err, ◌+◌, ◌*◌, ◌/◌, ◌%◌, cond, List, [], ◌∷◌, ◌++◌, eqb, get_or}
use Rattle.nick.specs.Blocks.{loads, loaded_number, block_addresses, begun}
use Rattle.nick.specs.Slots.{mode_of, dot_addresses}
use Rattle.nick.specs.Scanline.{active_at, pointers_after, line_dots, scan_after}
use Rattle.nick.specs.Refusals.{number_of, direct_refusal}
use Rattle.nick.specs.declared.Registers.{Registers}
use Rattle.nick.specs.declared.Scan.{Scan}
use Rattle.nick.specs.declared.State.{State}
use Rattle.nick.specs.declared.Sources.{Sources}
use Rattle.nick.specs.declared.Sources.TheVariants.{Nothing, One, Two}
use Rattle.nick.specs.declared.Answer.{Answer}
use Rattle.nick.specs.declared.refusal.Refusal.{Refusal}

-- what is said of a dot: its colour, and the addresses that it comes from
pub record Shown : Type 0 where
  pub colour : ℕ
  pub names : List ℕ

-- what a direct answer says: "A refused direct answer carries the number and no colour."
pub data Answered : Type 0 where
  refused : ℕ → Answered
  shows : Shown → Answered

-- the addresses that each case of the answer names, in order
abbrev pub addresses_of : Sources → List ℕ
addresses_of Nothing = []
addresses_of (One a) = a ∷ []
addresses_of (Two a b) = a ∷ b ∷ []

-- the number, or the colour and the addresses, of each case of the answer
abbrev pub answered : Result Answer Refusal → Answered
answered (Ok a) = shows (record { colour = a.colour; names = addresses_of a.sources })
answered (Err refusal) = refused (number_of refusal)

-- "The rules' colour of line y, dot x: run the scanline rules y + 1 times from the state given; it is dot x of the last, with
-- that external byte."
unfoldable pub direct_colour : State → List ℕ → ℕ → ℕ → ℕ → ℕ
direct_colour s ram y x e =
    get_or (line_dots s.registers ram (scan_after s.registers ram y s.scan) (λ dot. e)) x 0

-- the addresses that dot x of a scanline names, the scanline having begun as c says; "border dots, VSYNC and mode 6, none"
abbrev pub named_in : List ℕ → Scan → ℕ → List ℕ
named_in ram c x =
    cond (active_at c.block (x / 16))
    (dot_addresses (mode_of c.block) ram (pointers_after c.block (x / 16) c.at) (x % 16))
    []

-- the addresses that the direct answer names
unfoldable pub direct_names : State → List ℕ → ℕ → ℕ → List ℕ
direct_names s ram y x = named_in ram (begun s.registers ram (scan_after s.registers ram y s.scan)) x

-- what the rules say of line y, dot x
abbrev pub direct_shown : State → List ℕ → ℕ → ℕ → ℕ → Shown
direct_shown s ram y x e = record { colour = direct_colour s ram y x e; names = direct_names s ram y x }

-- the direct answer
unfoldable pub direct : State → List ℕ → ℕ → ℕ → ℕ → Answered
direct s ram y x e =
    let n = direct_refusal s ram y x in
    cond (eqb n 0) (shows (direct_shown s ram y x e)) (refused n)

-- the number of the block that the next scanline loads, if it loads one
abbrev pub load_of : Registers → Scan → List ℕ
load_of g c = cond (loads c) (loaded_number g c ∷ []) []

-- "Blocks loaded in these y + 1 scanlines are loaded on the way": their numbers, in order, for n scanlines
abbrev pub loaded_on_the_way : Registers → List ℕ → ℕ → Scan → List ℕ
loaded_on_the_way g ram zero c = []
loaded_on_the_way g ram (suc n) c = loaded_on_the_way g ram n c ++ load_of g (scan_after g ram n c)

-- SC and MB of each block loaded before the dot's own, and all sixteen bytes of its own; "the dot's own is the last loaded"
abbrev pub block_bytes_used : List ℕ → List ℕ
block_bytes_used [] = []
block_bytes_used (n ∷ []) = block_addresses n
block_bytes_used (n ∷ m ∷ more) = 16 * n ∷ (16 * n + 1) ∷ block_bytes_used (m ∷ more)

-- the addresses on which two RAMs must agree for one direct answer: those of the blocks, and those it names
unfoldable pub depends_on : State → List ℕ → ℕ → ℕ → List ℕ
depends_on s ram y x =
    block_bytes_used (loaded_on_the_way s.registers ram (suc y) s.scan) ++ direct_names s ram y x
