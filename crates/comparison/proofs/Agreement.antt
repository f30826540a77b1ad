-- The statements of specs/Agreement, proved.
use mathlib.Core.Path.{◌≡◌, refl, sym, ap, ◌∙◌}
use mathlib.Core.Logic.{◌⊎◌, inl, inr}
use mathlib.Core.List.{List}
use Rattle.std.specs.List.{zip}
use Rattle.std.proofs.lemmas.Slice.Zip.{length-zip, get_or-zip}
use Rattle.std.proofs.lemmas.Int.{ints}
use Prim.Native.Nat.{ℕ, ◌+◌, ◌*◌, ◌<◌}
use native.Mathlib.Omega.{arith}
use lib.IntN.{ℤ, pos}
use lib.ListN.{length, get_or, length-map, get_or-map}
use lib.Seq.{ext_get_or}
use lib.Signed.{◌≤ℤ◌}
use Rattle.nick.specs.Numbers.{byte_at}
use Rattle.comparison.specs.Comparison.{none, differing, first_from, difference, differences, range_of, Found, found_in, found, comparison}
use Rattle.comparison.specs.Agreement.{Bytes, range_in, AllZero, NoneDiffers, SameNowhere, FirstDiffers, RangeOver, RangesAre, exchanged, SidesExchange}
use Rattle.comparison.specs.declared.Channel.{Channel}
use Rattle.comparison.specs.declared.Channel.TheVariants.{Red, Green, Blue}
use Rattle.comparison.proofs.RefusalTable.{found_is, comparable, clear, not_refused, accepted_is}
use Rattle.comparison.proofs.FirstDot.{first_is, first_inside}
use Rattle.comparison.proofs.Extremes.{range_extremes, range_turned}
use Rattle.comparison.proofs.Colours.{levels_determine}
use Rattle.comparison.proofs.Sides.{same_count, same_first, count_agrees, first_agrees, no_difference, levels_same, count_turned, first_turned, differences_turned}

-- the difference at a place
difference_place :
    (channel : Channel) (xs ys : List ℕ) (i : ℕ)
    → i < length xs
    → length ys ≡ length xs
    → get_or (differences channel (zip xs ys)) i (pos 0) ≡ difference channel (byte_at xs i, byte_at ys i)
difference_place channel xs ys i h e =
    rw (← no_difference channel 0)
    (get_or-map (difference channel) (zip xs ys) i (0, 0) ∙ ap (difference channel) (get_or-zip xs ys i (0, 0) h (omega arith)))

differences_length : (channel : Channel) (xs ys : List ℕ) → length ys ≡ length xs → length (differences channel (zip xs ys)) ≡ length xs
differences_length channel xs ys e = omega (arith, length-map (zip xs ys) (difference channel), length-zip xs ys)

-- a number between 0 and 0
between_zero : (z : ℤ) → pos 0 ≤ℤ z → z ≤ℤ pos 0 → z ≡ pos 0
between_zero z low high = omega (arith, ints)

-- what is found of dots side by side
module _ (xs ys : List ℕ) (same : length ys ≡ length xs) (some : 0 < length xs) where
  range_over : (channel : Channel) → RangeOver channel xs ys (range_of (differences channel (zip xs ys)))
  range_over channel =
      let size = differences_length channel xs ys same in
      let e = range_extremes (differences channel (zip xs ys)) (omega arith) in
      let low : e.smallest.place < length xs = omega (arith, e.smallest.inside) in
      let high : e.largest.place < length xs = omega (arith, e.largest.inside) in
      record {
        lowest = e.smallest.place;
        lowest_inside = low;
        smallest = sym (difference_place channel xs ys e.smallest.place low same) ∙ e.smallest.there;
        highest = e.largest.place;
        highest_inside = high;
        largest = sym (difference_place channel xs ys e.largest.place high same) ∙ e.largest.there;
        between = λ i l. rw (← difference_place channel xs ys i l same) (e.between i (omega arith));
      }

range_found : (channel : Channel) (dots : List (ℕ × ℕ)) → range_in channel (found_in dots) ≡ range_of (differences channel dots)
unfolding found_in
range_found Red dots = refl
range_found Green dots = refl
range_found Blue dots = refl

-- an accepted comparison: its sizes, and what is found
module _
    (h : ℕ) (capture capture_records frame frame_records : List ℕ) (f : Found)
    (answer : comparison h capture capture_records frame frame_records ≡ found f) where
  is : f ≡ found_in (zip capture frame)
  is = (found_is h capture capture_records frame frame_records f answer).1

  same_length : length frame ≡ length capture
  same_length =
      let sizes = comparable h capture capture_records frame frame_records (found_is h capture capture_records frame frame_records f answer).0 in
      sizes.framed ∙ sym sizes.captured

  some_dots : 0 < length capture
  some_dots =
      let sizes = comparable h capture capture_records frame frame_records (found_is h capture capture_records frame frame_records f answer).0 in
      omega (arith, sizes.some, sizes.captured)

  range_in_lem : (channel : Channel) → RangeOver channel capture frame (range_in channel f)
  range_in_lem channel = rw (is, range_found channel (zip capture frame)) (range_over capture frame same_length some_dots channel)

  count_is : f.count ≡ differing (zip capture frame)
  unfolding found_in
  count_is = ap (λ (g : Found). g.count) is

  first_found : f.first ≡ first_from 0 (zip capture frame)
  unfolding found_in
  first_found = ap (λ (g : Found). g.first) is

  -- where the sides are equal
  module _ (equal : capture ≡ frame) where
    equal_count : f.count ≡ 0
    equal_count = count_is ∙ rw (← equal) (same_count capture)

    equal_first : f.first ≡ none
    equal_first = first_found ∙ rw (← equal) (same_first 0 capture)

    equal_levels : AllZero f
    equal_levels channel =
        let r = range_in_lem channel in
        let nothing : (i : ℕ) → difference channel (byte_at capture i, byte_at frame i) ≡ pos 0 = λ i. rw (← equal) (no_difference channel (byte_at capture i)) in
        (sym r.smallest ∙ nothing r.lowest, sym r.largest ∙ nothing r.highest)

  -- where all six numbers are 0, every level is equal, and so every dot
  levels_equal : Bytes capture → Bytes frame → AllZero f → capture ≡ frame
  levels_equal bytes bytes' zeros =
      ext_get_or 0 capture frame (sym same_length) (λ i l.
      levels_determine (byte_at capture i) (byte_at frame i) (bytes i) (bytes' i) (λ channel.
      let b = (range_in_lem channel).between i l in
      levels_same channel (byte_at capture i) (byte_at frame i)
      (between_zero _ (rw (zeros channel).0 at b.0) (rw (zeros channel).1 at b.1))))

  count_equal : f.count ≡ 0 → capture ≡ frame
  count_equal e = count_agrees capture frame same_length (sym count_is ∙ e)

  first_equal : f.first ≡ none → capture ≡ frame
  first_equal e = first_agrees 0 capture frame same_length (sym first_found ∙ e)

pub none_differs : NoneDiffers
none_differs h capture capture_records frame frame_records f answer bytes bytes' =
    let equal = count_equal h capture capture_records frame frame_records f answer in
    let count = equal_count h capture capture_records frame frame_records f answer in
    record {
      equal = (equal, count);
      levels = (
        λ e. equal_levels h capture capture_records frame frame_records f answer (equal e),
        λ e. count (levels_equal h capture capture_records frame frame_records f answer bytes bytes' e),
      );
      nowhere = (
        λ e. equal_first h capture capture_records frame frame_records f answer (equal e),
        λ e. count (first_equal h capture capture_records frame frame_records f answer e),
      );
    }

pub same_nowhere : SameNowhere
same_nowhere h dots records others f answer = (
  equal_count h dots records dots others f answer refl,
  equal_first h dots records dots others f answer refl,
  equal_levels h dots records dots others f answer refl,
)

pub first_differs : FirstDiffers
first_differs h capture capture_records frame frame_records f line dot answer e =
    let (inside, same) = first_inside h capture capture_records frame frame_records f line dot answer e in
    let p = first_is 0 (zip capture frame) line dot (sym (first_found h capture capture_records frame frame_records f answer) ∙ e) in
    let there : p.offset ≡ 736 * line + dot = omega (arith, p.there) in
    record {
      in_line = p.in_line;
      inside = inside;
      differs = rw (there, get_or-zip capture frame (736 * line + dot) (0, 0) inside (omega arith)) at p.differs;
      before = λ y x l b.
          let earlier : 736 * y + x < 736 * line + dot = is_before y x l b in
          rw (get_or-zip capture frame (736 * y + x) (0, 0) (omega arith) (omega arith)) at (p.before (736 * y + x) (omega arith));
    }
  where
    is_before : (y x : ℕ) → x < 736 → (y < line) ⊎ ((y ≡ line) × (x < dot)) → 736 * y + x < 736 * line + dot
    is_before y x l (inl b) = omega arith
    is_before y x l (inr b) = omega (arith, b.0, b.1)

pub ranges_are : RangesAre
ranges_are h capture capture_records frame frame_records f channel answer =
    range_in_lem h capture capture_records frame frame_records f answer channel

found_turned : (xs ys : List ℕ) → found_in (zip ys xs) ≡ exchanged (found_in (zip xs ys))
unfolding found_in
found_turned xs ys =
    rw (
      count_turned xs ys,
      first_turned 0 xs ys,
      differences_turned Red xs ys,
      differences_turned Green xs ys,
      differences_turned Blue xs ys,
      range_turned (differences Red (zip xs ys)),
      range_turned (differences Green (zip xs ys)),
      range_turned (differences Blue (zip xs ys)),
    )

pub sides_exchange : SidesExchange
sides_exchange h capture capture_records frame frame_records f answer =
    let (accepted, told) = found_is h capture capture_records frame frame_records f answer in
    let c = clear h capture capture_records frame frame_records accepted in
    let turned = not_refused h frame frame_records capture capture_records (record {
      height = c.height;
      dots = (c.dots.1, c.dots.0);
      records = (c.records.1, c.records.0);
      stamps = (c.stamps.1, c.stamps.0);
    }) in
    accepted_is h frame frame_records capture capture_records turned
    ∙ ap found (found_turned capture frame ∙ ap exchanged (sym told))
