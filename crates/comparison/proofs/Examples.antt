-- Comparisons computed: what is found, and which refusal is told of which side.
use mathlib.Core.Path.{◌≡◌, refl}
use mathlib.Core.List.{List, [], ◌∷◌, ◌++◌, map}
use Prim.Native.Nat.{ℕ}
use lib.IntN.{ℤ, pos, negsuc}
use lib.ListN.{replicate}
use Rattle.nick.specs.Sizes.{record_bytes}
use Rattle.nick.specs.Levels.{levels_of}
use Rattle.comparison.specs.Comparison.{none, at, difference, found_in, no_side, capture_side, frame_side, told, comparison_refusal, Answered, refused, found, comparison}
use Rattle.comparison.specs.declared.Range.{Range}

-- a comparison, and what it answers
pub record Row : Type 0 where
  pub got : Answered
  pub want : Answered

abbrev range : ℤ → ℤ → Range
range smallest largest = record { smallest = smallest; largest = largest }

-- a line of one colour, the record of a painted line, and a stamp
abbrev line : ℕ → List ℕ
line colour = replicate 736 colour

abbrev painted : List ℕ
painted = replicate record_bytes 4

abbrev stamped : List ℕ
stamped = replicate record_bytes 255

abbrev pub rows : List Row
rows =
    -- colour 73 is red 7; every dot differs the same way, so that 0 is in neither range of red
    record {
      got = comparison 1 (line 0) painted (line 73) painted;
      want = found (record { count = 736; first = at 0 0; red = range (negsuc 6) (negsuc 6); green = range (pos 0) (pos 0); blue = range (pos 0) (pos 0) });
    }
    -- colour 36 is blue 3; the last dot of line 0, then all of line 1
    ∷ record {
      got = comparison 2 (replicate 735 0 ++ 73 ∷ line 36) (painted ++ painted) (line 0 ++ line 0) (painted ++ painted);
      want = found (record { count = 737; first = at 0 735; red = range (pos 0) (pos 7); green = range (pos 0) (pos 0); blue = range (pos 0) (pos 3) });
    }
    ∷ record {
      got = comparison 1 (line 21) painted (line 21) painted;
      want = found (record { count = 0; first = none; red = range (pos 0) (pos 0); green = range (pos 0) (pos 0); blue = range (pos 0) (pos 0) });
    }
    -- the smallest number, and then the capture's side
    ∷ record { got = comparison 0 [] [] (line 0) stamped; want = refused (told 5 no_side) }
    ∷ record { got = comparison 1 [] [] [] stamped; want = refused (told 6 capture_side) }
    ∷ record { got = comparison 1 (line 0) [] [] stamped; want = refused (told 6 frame_side) }
    ∷ record { got = comparison 1 (line 0) [] (line 0) []; want = refused (told 7 capture_side) }
    ∷ record { got = comparison 1 (line 0) stamped (line 0) []; want = refused (told 7 frame_side) }
    ∷ record { got = comparison 1 (line 0) stamped (line 0) stamped; want = refused (told 12 capture_side) }
    ∷ record { got = comparison 2 (line 0 ++ line 0) (painted ++ painted) (line 0 ++ line 0) (painted ++ stamped); want = refused (told 12 frame_side) }
    ∷ []

pub worked : map (λ (r : Row). r.got) rows ≡ map (λ (r : Row). r.want) rows
unfolding levels_of difference found_in comparison_refusal comparison
worked = refl
