-- Demand 3 on a list of four calls, computed: a frame, a refused painting, a single line, and a frame with external input.
use mathlib.Core.Path.{◌≡◌, refl, ◌∙◌}
use mathlib.Core.List.{List, [], ◌∷◌, ◌++◌, map}
use Prim.Native.Nat.{ℕ, ◌*◌}
use lib.Dec.{lit≤}
use lib.ListN.{replicate}
use Rattle.nick.specs.Sizes.{record_bytes}
use Rattle.nick.specs.Registers.{fresh_state}
use Rattle.nick.specs.Blocks.{loaded_number, decoded, block_at, block_addresses, loaded, continued, begun}
use Rattle.nick.specs.Slots.{mode_numbered, font_address}
use Rattle.nick.specs.Colour.{colours_numbered, graphics_added, graphics_byte, character_added, palette_colour}
use Rattle.nick.specs.External.{priority_gives, mixed_colour}
use Rattle.nick.specs.Scanline.{slot_dots, begun_dots, line_dots, ended, next_scan}
use Rattle.nick.specs.Sync.{line_sync}
use Rattle.nick.specs.Record.{next_state}
use Rattle.nick.specs.Refusals.{painting_refusal}
use Rattle.nick.specs.Painting.{painted, refused_painting, paint}
use Rattle.nick.specs.Direct.{Answered, shows, direct, direct_colour, direct_names, depends_on}
use Rattle.nick.specs.declared.State.{State}
use Rattle.claims.specs.Demand3.{Call, one_line, lines, painting_of, Made, made_of, run}
use Rattle.claims.proofs.Demand3.{answered_directly, demand3}
use Rattle.claims.proofs.Dependence.{dependence}

-- block 0: two scanlines of PIXEL with VRES, margins 10 and 12, LD1 64, colours 10 to 17
abbrev pixel_block : List ℕ
pixel_block = 254 ∷ 18 ∷ 10 ∷ 12 ∷ 64 ∷ 0 ∷ 0 ∷ 0 ∷ 10 ∷ 11 ∷ 12 ∷ 13 ∷ 14 ∷ 15 ∷ 16 ∷ 17 ∷ []

-- block 1: three scanlines of CH256 with RELOAD, margins 10 and 12, LD1 80, LD2 1, colours 20 to 27
abbrev character_block : List ℕ
character_block = 253 ∷ 7 ∷ 10 ∷ 12 ∷ 80 ∷ 0 ∷ 1 ∷ 0 ∷ 20 ∷ 21 ∷ 22 ∷ 23 ∷ 24 ∷ 25 ∷ 26 ∷ 27 ∷ []

-- codes at 80, and font bytes at 259, 515 and 771
abbrev text : List ℕ
text = (3 ∷ 3 ∷ replicate 177 0) ++ (128 ∷ replicate 255 0) ++ (64 ∷ replicate 255 0) ++ (192 ∷ replicate 64764 0)

-- display bytes at 64
abbrev pub ram : List ℕ
ram =
    pixel_block
    ++ character_block
    ++ replicate 32 0
    ++ (165 ∷ 90 ∷ 60 ∷ 195 ∷ 240 ∷ 129 ∷ 15 ∷ 170 ∷ replicate 8 0)
    ++ text

abbrev frame : Call
frame = lines 2 (replicate 1472 0) (replicate (2 * record_bytes) 0) []

abbrev refused : Call
refused = lines 0 [] (1 ∷ 2 ∷ 3 ∷ []) []

abbrev single : Call
single = one_line (replicate 736 0) (replicate record_bytes 0) []

-- the external byte is 135 at dot 32 of the second line
abbrev mixed : Call
mixed = lines 2 (replicate 1472 0) (replicate (2 * record_bytes) 0) (replicate 768 0 ++ (135 ∷ replicate 703 0))

abbrev calls : List Call
calls = frame ∷ refused ∷ single ∷ mixed ∷ []

-- the state that each call leaves
abbrev after_frame : State
after_frame = (painting_of fresh_state ram frame).state

abbrev after_refused : State
after_refused = (painting_of after_frame ram refused).state

abbrev after_single : State
after_single = (painting_of after_refused ram single).state

-- each call made from the state that the one before returned
abbrev first : Made
first = made_of fresh_state ram frame

abbrev second : Made
second = made_of after_frame ram refused

abbrev third : Made
third = made_of after_refused ram single

abbrev fourth : Made
fourth = made_of after_single ram mixed

-- the second call is refused with number 5, the others are accepted
pub refusals : map (λ (m : Made). m.refusal) (run fresh_state ram calls) ≡ 0 ∷ 5 ∷ 0 ∷ 0 ∷ []
unfolding
    loaded_number decoded block_at loaded continued begun mode_numbered ended next_scan line_sync next_state painting_refusal
    painted refused_painting paint
refusals = refl

abbrev shown : ℕ → List ℕ → Answered
shown c named = shows (record { colour = c; names = named })

-- demand 3 gives the painted dots: in line 1, the second of the first frame; in line 2, the single one; and in line 4, the
-- second of the last frame, where external input wins
pub answers :
    (direct fresh_state ram 1 40 0 ≡ shown 11 (69 ∷ []))
    × (direct fresh_state ram 2 48 0 ≡ shown 21 (81 ∷ 259 ∷ []))
    × (direct fresh_state ram 4 32 135 ≡ shown 27 (80 ∷ 771 ∷ []))
unfolding
    loaded_number decoded block_at loaded continued begun mode_numbered font_address colours_numbered graphics_added graphics_byte
    character_added palette_colour priority_gives mixed_colour slot_dots begun_dots line_dots ended next_scan line_sync next_state
    painting_refusal painted refused_painting paint direct_names
answers = (
  demand3 fresh_state ram calls [] first (second ∷ third ∷ fourth ∷ []) 1 40 (lit≤ tt, lit≤ tt) refl
      (record { accepted = refl; first = lit≤ tt; last = lit≤ tt }),
  demand3 fresh_state ram calls (first ∷ second ∷ []) third (fourth ∷ []) 2 48 (lit≤ tt, lit≤ tt) refl
      (record { accepted = refl; first = lit≤ tt; last = lit≤ tt }),
  demand3 fresh_state ram calls (first ∷ second ∷ third ∷ []) fourth [] 4 32 (lit≤ tt, lit≤ tt) refl
      (record { accepted = refl; first = lit≤ tt; last = lit≤ tt }),
)

-- the last line that can be asked about, with nothing painted: the second row of its character's font
pub last_line : direct fresh_state ram 1023 34 0 ≡ shown 21 (80 ∷ 515 ∷ [])
unfolding
    loaded_number decoded block_at loaded continued begun mode_numbered font_address colours_numbered character_added palette_colour
    mixed_colour slot_dots begun_dots line_dots ended next_scan direct_colour direct_names
last_line = answered_directly fresh_state ram 1023 34 0 refl refl (lit≤ tt, lit≤ tt)

-- the last of the painted dots depends on SC and MB of block 0, on block 1, and on the code and the font byte
pub depends : depends_on fresh_state ram 4 32 ≡ 0 ∷ 1 ∷ block_addresses 1 ++ (80 ∷ 771 ∷ [])
unfolding
    loaded_number decoded block_at block_addresses loaded continued begun mode_numbered font_address ended next_scan direct_names
    depends_on
depends = refl

-- so it is the same in a RAM with another block 0, but for SC and MB, and other display bytes
abbrev other : List ℕ
other = (254 ∷ 18 ∷ replicate 14 9) ++ character_block ++ replicate 48 9 ++ text

pub same_answer : direct fresh_state other 4 32 135 ≡ shown 27 (80 ∷ 771 ∷ [])
unfolding
    loaded_number decoded block_at block_addresses loaded continued begun mode_numbered font_address ended next_scan direct_names
    depends_on
same_answer = dependence fresh_state ram other 4 32 135 (refl, refl) ∙ answers.2
