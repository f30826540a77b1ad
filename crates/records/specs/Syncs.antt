-- What the passing of slots and of a scanline does to sync, as equations with the rules.
use Rattle.std.specs.Prelude.{ℕ, ◌+◌, ◌≡◌, Bool}
use Rattle.lists.specs.Number.{number}
use Rattle.nick.specs.Sync.{sync_at, line_sync, line_sync_count}
use Rattle.nick.specs.declared.Block.{Block}
use Rattle.records.specs.declared.sync.Sync.{Sync}

-- sync: one slot passed
pub record SyncStep (b : Block) (slot : ℕ) (s r : Sync) : Type 0 where
  pub on : r.on ≡ sync_at b slot s.on
  pub count : r.count ≡ s.count + number (sync_at b slot s.on)

-- sync: a whole scanline
pub record Syncs (b : Block) (on : Bool) (r : Sync) : Type 0 where
  pub level : r.on ≡ line_sync b on
  pub slots : r.count ≡ line_sync_count b on
