-- A colour's levels are at most 7, and determine it: of the 256 colour bytes, each is got back from its levels.
use mathlib.Core.Path.{◌≡◌, refl, sym, ap, ◌∙◌}
use mathlib.Core.List.{List}
use Prim.Native.Nat.{ℕ, ◌+◌, ◌*◌, ◌/◌, ◌%◌, ◌<◌, ◌≤◌}
use native.Mathlib.Omega.{arith}
use lib.ListN.{get_or}
use Rattle.lists.specs.Tab.{tab}
use Rattle.lists.proofs.Laws.{get_or_tab}
use Rattle.nick.specs.Levels.{levels_of}
use Rattle.nick.specs.declared.Levels.{Levels}
use Rattle.nick.proofs.Bits.{bit_below}
use Rattle.comparison.specs.Comparison.{level_of}
use Rattle.comparison.specs.declared.Channel.{Channel}
use Rattle.comparison.specs.declared.Channel.TheVariants.{Red, Green, Blue}

-- so a difference is -7 to 7
pub level_most : (channel : Channel) (colour : ℕ) → level_of channel (levels_of colour) ≤ 7
unfolding levels_of
level_most Red c = omega (arith, bit_below 0 c, bit_below 3 c, bit_below 6 c)
level_most Green c = omega (arith, bit_below 1 c, bit_below 4 c, bit_below 7 c)
level_most Blue c = omega (arith, bit_below 2 c, bit_below 5 c)

-- the colour byte of these levels
abbrev colour_of : Levels → ℕ
colour_of v =
    v.red / 4
    + 2 * (v.green / 4)
    + 4 * (v.blue / 2)
    + 8 * (v.red / 2 % 2)
    + 16 * (v.green / 2 % 2)
    + 32 * (v.blue % 2)
    + 64 * (v.red % 2)
    + 128 * (v.green % 2)

all_back : tab (λ c. colour_of (levels_of c)) 256 ≡ tab (λ c. c) 256
unfolding levels_of
all_back = refl

back : (c n : ℕ) → n ≡ 256 → c < n → colour_of (levels_of c) ≡ c
back c n e h =
    let all : tab (λ d. colour_of (levels_of d)) n ≡ tab (λ d. d) n = rw e all_back in
    sym (get_or_tab (λ d. colour_of (levels_of d)) n c 0 h) ∙ ap (λ (xs : List ℕ). get_or xs c 0) all ∙ get_or_tab (λ d. d) n c 0 h

pub levels_determine :
    (a b : ℕ)
    → a < 256
    → b < 256
    → ((channel : Channel) → level_of channel (levels_of a) ≡ level_of channel (levels_of b))
    → a ≡ b
levels_determine a b ha hb same =
    let levels : levels_of a ≡ levels_of b = λ i. record { red = same Red i; green = same Green i; blue = same Blue i } in
    sym (back a 256 refl ha) ∙ ap colour_of levels ∙ back b 256 refl hb
