-- Laws on the number of blocks that are listed: how many are left after k blocks without RELOAD.
use mathlib.Core.Path.{◌≡◌}
use mathlib.Core.Bool.{Bool, true, false, cond}
use mathlib.Core.List.{List}
use Prim.Native.Nat.{ℕ, zero, suc, ◌+◌, ◌-◌, ◌%◌, ◌<◌, ◌≤◌}
use native.Mathlib.Nat.{add-zero, sub-zero, mod-eq_of_lt, mod-add-mod, add_assoc}
use native.Mathlib.Omega.{arith}
use Rattle.nick.specs.Registers.{base_number}
use Rattle.nick.specs.Blocks.{block_at, reload}
use Rattle.nick.specs.Listing.{blocks_from, blocks_listed}
use Rattle.nick.specs.declared.Registers.{Registers}

-- the number of blocks from the block k places after the base on, of a limit that counts from the base
unfoldable pub blocks_after : ℕ → List ℕ → ℕ → ℕ → ℕ
blocks_after limit ram base k = blocks_from (limit - k) ram ((base + k) % 4096)

module _ (limit : ℕ) (ram : List ℕ) (base : ℕ) where
  pub after_none : base < 4096 → blocks_from limit ram base ≡ blocks_after limit ram base 0
  unfolding blocks_after
  after_none h = rw (sub-zero limit, add-zero base, mod-eq_of_lt h)

  pub after_all : (k : ℕ) → limit ≤ k → blocks_after limit ram base k ≡ 0
  unfolding blocks_after
  after_all k h =
      let e : limit - k ≡ 0 = omega arith in
      rw e

  module _ (k : ℕ) (h : k < limit) where
    one_more : limit - k ≡ suc (limit - (k + 1))
    one_more = omega arith

    pub after_reload : reload (block_at ram ((base + k) % 4096)) ≡ true → blocks_after limit ram base k ≡ 1
    unfolding blocks_after
    after_reload e = rw (one_more, e)

    pub after_more : reload (block_at ram ((base + k) % 4096)) ≡ false → blocks_after limit ram base k ≡ suc (blocks_after limit ram base (k + 1))
    unfolding blocks_after
    after_more e =
        rw (one_more, e) (rw (mod-add-mod (base + k) 4096 1, add_assoc base k 1))

-- all that are listed
pub listed_after : (g : Registers) (ram : List ℕ) (base : ℕ) → base ≡ base_number g → base < 4096 → blocks_listed g ram ≡ blocks_after 4096 ram base 0
unfolding blocks_listed
listed_after g ram base e h = rw (← e) (after_none 4096 ram base h)

-- at most as many blocks as the limit says
pub blocks_limit : (limit : ℕ) (ram : List ℕ) (n : ℕ) → blocks_from limit ram n ≤ limit
blocks_limit zero ram n = omega arith
blocks_limit (suc limit) ram n = go (blocks_limit limit ram ((n + 1) % 4096)) (reload (block_at ram n))
  where
    go : {more : ℕ} → more ≤ limit → (b : Bool) → cond b 1 (suc more) ≤ suc limit
    go h true = omega arith
    go h false = omega arith

pub listed_limit : (g : Registers) (ram : List ℕ) → blocks_listed g ram ≤ 4096
unfolding blocks_listed
listed_limit g ram = blocks_limit 4096 ram (base_number g)
