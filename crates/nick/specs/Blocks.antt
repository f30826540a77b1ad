-- Document 01, "One scanline", first two paragraphs: which block is loaded and when, and how a scanline begins.
use Rattle.std.specs.Prelude.{ℕ, ◌+◌, ◌-◌, ◌*◌, ◌%◌, Bool, not, cond, ◌||◌, List, [], ◌∷◌, eqb, take, drop}
use Rattle.lists.specs.Tab.{tab}
use Rattle.nick.specs.Numbers.{is_set, byte_at}
use Rattle.nick.specs.Registers.{base_number}
use Rattle.nick.specs.declared.Registers.{Registers}
use Rattle.nick.specs.declared.Block.{Block}
use Rattle.nick.specs.declared.Scan.{Scan}

-- "MB: bit 7 VINT, .. bit 4 VRES, .. bit 0 RELOAD."
abbrev pub vint : Block → Bool
vint b = is_set 7 b.mb

abbrev pub vres : Block → Bool
vres b = is_set 4 b.mb

abbrev pub reload : Block → Bool
reload b = is_set 0 b.mb

-- "A block is loaded when a reload is pending or no scanlines are left."
abbrev pub loads : Scan → Bool
loads c = c.pending || eqb c.left 0

-- "Its number is, in this order: the base, if a reload is pending; the base as it stands now, if the stored block has
-- RELOAD (MB bit 0); the same number, if LPH bit 6 is clear; else one more, 4,095 going to 0."
unfoldable pub loaded_number : Registers → Scan → ℕ
loaded_number g c =
    cond c.pending (base_number g)
    (cond (reload c.block) (base_number g)
    (cond (not (is_set 6 g.lph)) c.number
    ((c.number + 1) % 4096)))

-- "SC, MB, LM, RM, LD1 low, LD1 high, LD2 low, LD2 high, COL0 to COL7"
unfoldable pub decoded : List ℕ → Block
decoded b = record {
  sc = byte_at b 0;
  mb = byte_at b 1;
  lm = byte_at b 2;
  rm = byte_at b 3;
  start = record { ld1 = byte_at b 4 + 256 * byte_at b 5; ld2 = byte_at b 6 + 256 * byte_at b 7 };
  col =
      byte_at b 8 ∷ byte_at b 9 ∷ byte_at b 10 ∷ byte_at b 11
      ∷ byte_at b 12 ∷ byte_at b 13 ∷ byte_at b 14 ∷ byte_at b 15 ∷ [];
}

-- "The block is the sixteen bytes that start at sixteen times its number"
unfoldable pub block_at : List ℕ → ℕ → Block
block_at ram n = decoded (take 16 (drop (16 * n) ram))

-- the addresses of those sixteen bytes
unfoldable pub block_addresses : ℕ → List ℕ
block_addresses n = tab (λ i. 16 * n + i) 16

-- "Scanlines left becomes 256 minus SC. LD1 and LD2 start from the block. Painting changes pending only after a load: on if
-- LPH bit 7 is clear, else off."
unfoldable pub loaded : Registers → ℕ → Block → Scan
loaded g n b = record {
  pending = not (is_set 7 g.lph);
  block = b;
  number = n;
  at = b.start;
  left = 256 - b.sc;
}

-- "If no block was loaded and VRES is clear, LD1 restarts from the stored block. LD2 doesn't restart inside a mode line."
unfoldable pub continued : Scan → Scan
continued c = record {
  pending = c.pending;
  block = c.block;
  number = c.number;
  at = record { ld1 = cond (vres c.block) c.at.ld1 c.block.start.ld1; ld2 = c.at.ld2 };
  left = c.left;
}

-- a scanline's begin: a block is loaded, or the mode line goes on
unfoldable pub begun : Registers → List ℕ → Scan → Scan
begun g ram c = cond (loads c) (loaded g (loaded_number g c) (block_at ram (loaded_number g c))) (continued c)
