-- What a reader of a comparison relies on, of every one that is not refused: when the two sides agree, where they first differ, how
-- far off their levels are, and that it does not matter which side is called the capture. proofs/Agreement has the proofs.
use Rattle.std.specs.Prelude.{ℕ, ◌+◌, ◌*◌, ◌<◌, ◌≡◌, ◌⊎◌, ◌↔◌, List, pos, neg_ℤ, length, ◌≤ℤ◌}
use Rattle.nick.specs.Numbers.{byte_at}
use Rattle.comparison.specs.Comparison.{none, at, difference, Found, found, comparison}
use Rattle.comparison.specs.declared.Channel.{Channel}
use Rattle.comparison.specs.declared.Channel.TheVariants.{Red, Green, Blue}
use Rattle.comparison.specs.declared.Range.{Range}

-- the dots of a buffer are bytes
abbrev pub Bytes : List ℕ → Type 0
Bytes dots = (i : ℕ) → byte_at dots i < 256

-- the range that is found of each level
abbrev pub range_in : Channel → Found → Range
range_in Red f = f.red
range_in Green f = f.green
range_in Blue f = f.blue

-- all six numbers are 0
abbrev pub AllZero : Found → Type 0
AllZero f = (channel : Channel) → ((range_in channel f).smallest ≡ pos 0) × ((range_in channel f).largest ≡ pos 0)

-- "No dot differs" is said in four ways: the count is 0, the buffers are equal, all six numbers are 0, there is no first one.
pub record Agrees (capture frame : List ℕ) (f : Found) : Type 0 where
  pub equal : (f.count ≡ 0) ↔ (capture ≡ frame)
  pub levels : (f.count ≡ 0) ↔ AllZero f
  pub nowhere : (f.count ≡ 0) ↔ (f.first ≡ none)

-- A colour's levels determine it, where it is a byte.
abbrev pub NoneDiffers : Type 0
NoneDiffers =
    (h : ℕ) (capture capture_records frame frame_records : List ℕ) (f : Found)
    → comparison h capture capture_records frame frame_records ≡ found f
    → Bytes capture
    → Bytes frame
    → Agrees capture frame f

-- A buffer compared with itself differs nowhere.
abbrev pub SameNowhere : Type 0
SameNowhere =
    (h : ℕ) (dots records otherRecords : List ℕ) (f : Found)
    → comparison h dots records dots otherRecords ≡ found f
    → (f.count ≡ 0) × (f.first ≡ none) × AllZero f

-- The first dot differs, and every line and dot before it is equal.
pub record FirstOf (capture frame : List ℕ) (line dot : ℕ) : Type 0 where
  pub in_line : dot < 736
  pub inside : 736 * line + dot < length capture
  pub differs : byte_at capture (736 * line + dot) ≡ byte_at frame (736 * line + dot) → ⊥
  pub before :
      (y x : ℕ)
      → x < 736
      → (y < line) ⊎ ((y ≡ line) × (x < dot))
      → byte_at capture (736 * y + x) ≡ byte_at frame (736 * y + x)

abbrev pub FirstDiffers : Type 0
FirstDiffers =
    (h : ℕ) (capture capture_records frame frame_records : List ℕ) (f : Found) (line dot : ℕ)
    → comparison h capture capture_records frame frame_records ≡ found f
    → f.first ≡ at line dot
    → FirstOf capture frame line dot

-- The smallest is the difference at some dot, and so is the largest; the difference at every dot lies between them.
pub record RangeOver (channel : Channel) (capture frame : List ℕ) (r : Range) : Type 0 where
  pub lowest : ℕ
  pub lowest_inside : lowest < length capture
  pub smallest : difference channel (byte_at capture lowest, byte_at frame lowest) ≡ r.smallest
  pub highest : ℕ
  pub highest_inside : highest < length capture
  pub largest : difference channel (byte_at capture highest, byte_at frame highest) ≡ r.largest
  pub between :
      (i : ℕ)
      → i < length capture
      → (r.smallest ≤ℤ difference channel (byte_at capture i, byte_at frame i))
      × (difference channel (byte_at capture i, byte_at frame i) ≤ℤ r.largest)

abbrev pub RangesAre : Type 0
RangesAre =
    (h : ℕ) (capture capture_records frame frame_records : List ℕ) (f : Found) (channel : Channel)
    → comparison h capture capture_records frame frame_records ≡ found f
    → RangeOver channel capture frame (range_in channel f)

-- The two sides exchanged: the same count and place, and the ranges negated and exchanged.
abbrev pub turned : Range → Range
turned r = record { smallest = neg_ℤ r.largest; largest = neg_ℤ r.smallest }

abbrev pub exchanged : Found → Found
exchanged f = record {
  count = f.count;
  first = f.first;
  red = turned f.red;
  green = turned f.green;
  blue = turned f.blue;
}

abbrev pub SidesExchange : Type 0
SidesExchange =
    (h : ℕ) (capture capture_records frame frame_records : List ℕ) (f : Found)
    → comparison h capture capture_records frame frame_records ≡ found f
    → comparison h frame frame_records capture capture_records ≡ found (exchanged f)
