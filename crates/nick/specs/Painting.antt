-- Painting one scanline, and 1 to 1,024 "as that many single ones in order", refused calls as well.
use Rattle.std.specs.Prelude.{ℕ, zero, suc, ◌+◌, ◌*◌, cond, List, [], ◌++◌, eqb, length, replicate}
use Rattle.nick.specs.Numbers.{byte_at}
use Rattle.nick.specs.Scanline.{line_dots}
use Rattle.nick.specs.Record.{line_record, state_after}
use Rattle.nick.specs.Refusals.{painting_refusal}
use Rattle.nick.specs.declared.State.{State}

-- what a painting leaves: the refusal, 0 for none, the state, and the two buffers
pub record Painting : Type 0 where
  pub refusal : ℕ
  pub state : State
  pub dots : List ℕ
  pub records : List ℕ

-- the external byte of dot x of line y: "one byte per dot"; "Empty acts as all zeros."
abbrev pub external_at : List ℕ → ℕ → ℕ → ℕ
external_at external y x = byte_at external (736 * y + x)

-- the dots of the first n lines: "Line y paints the 736 dots that start at dot 736 times y."
abbrev pub frame_dots : List ℕ → List ℕ → ℕ → State → List ℕ
frame_dots ram external zero s = []
frame_dots ram external (suc n) s =
    frame_dots ram external n s
    ++ line_dots s.registers ram (state_after ram n s).scan (external_at external n)

-- their records, one after another
abbrev pub frame_records : List ℕ → ℕ → State → List ℕ
frame_records ram zero s = []
frame_records ram (suc n) s = frame_records ram n s ++ line_record ram (state_after ram n s)

-- an accepted painting of h lines
unfoldable pub painted : State → List ℕ → ℕ → List ℕ → Painting
painted s ram h external = record {
  refusal = 0;
  state = state_after ram h s;
  dots = frame_dots ram external h s;
  records = frame_records ram h s;
}

-- "A refused painting returns the state as given, keeps the dots, and writes 255 over the whole record buffer, whatever its
-- length."
unfoldable pub refused_painting : ℕ → State → List ℕ → List ℕ → Painting
refused_painting n s dots records = record {
  refusal = n;
  state = s;
  dots = dots;
  records = replicate (length records) 255;
}

-- painting h scanlines
unfoldable pub paint : State → List ℕ → ℕ → List ℕ → List ℕ → List ℕ → Painting
paint s ram h dots records external =
    let n = painting_refusal s ram h dots records external in
    cond (eqb n 0) (painted s ram h external) (refused_painting n s dots records)

-- painting one scanline
abbrev pub paint_line : State → List ℕ → List ℕ → List ℕ → List ℕ → Painting
paint_line s ram dots records external = paint s ram 1 dots records external
