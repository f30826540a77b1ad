-- What sync is over all slots of a scanline in VSYNC.
use Rattle.std.proofs.Common.{◌≡◌, ℕ, Bool, refl}
use Rattle.nick.specs.Slots.{VSYNC, mode_of}
use Rattle.nick.specs.Sync.{sync_after, sync_count, line_sync, line_sync_count}
use Rattle.nick.specs.declared.Block.{Block}

module _ (b : Block) (n : ℕ) (on : Bool) (all : n ≡ 57) (vsync : VSYNC ≡ mode_of b) where
  pub level_in_vsync : sync_after b n on ≡ line_sync b on
  unfolding line_sync
  level_in_vsync = rw (all, ← vsync) refl

  pub count_in_vsync : sync_count b n on ≡ line_sync_count b on
  unfolding line_sync_count
  count_in_vsync = rw (all, ← vsync) refl
