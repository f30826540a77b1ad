-- The ranges taken on dot by dot, as the code takes them.
use Rattle.std.specs.Prelude.{ℕ, ℤ}
use Rattle.comparison.specs.Comparison.{lesser, greater, difference}
use Rattle.comparison.specs.declared.Channel.TheVariants.{Red, Green, Blue}
use Rattle.comparison.specs.declared.Range.{Range}
use Rattle.comparison.specs.declared.ranges.Ranges.{Ranges}

-- the range of one difference
abbrev pub range_at : ℤ → Range
range_at first = record { smallest = first; largest = first }

-- a range with one difference more
unfoldable pub widened : Range → ℤ → Range
widened range next = record { smallest = lesser range.smallest next; largest = greater range.largest next }

-- the ranges of one dot
abbrev pub ranges_at : ℕ × ℕ → Ranges
ranges_at dot = record {
  red = range_at (difference Red dot);
  green = range_at (difference Green dot);
  blue = range_at (difference Blue dot);
}

-- the ranges with one dot more
abbrev pub with_dot : Ranges → ℕ × ℕ → Ranges
with_dot ranges dot = record {
  red = widened ranges.red (difference Red dot);
  green = widened ranges.green (difference Green dot);
  blue = widened ranges.blue (difference Blue dot);
}
