-- Laws that put a scanline's parts together: what it fetches, its end, and its record.
use Rattle.std.proofs.Common.{◌≡◌, ℕ, ◌+◌, ◌*◌, Bool, true, false, cond, eqb, List, [], ◌∷◌, ◌++◌, length, refl, ap, ◌∙◌, length-append}
use Rattle.lists.proofs.Laws.{length_tab}
use Rattle.nick.specs.Numbers.{low, high}
use Rattle.nick.specs.Blocks.{loads, loaded_number, block_addresses, begun}
use Rattle.nick.specs.Scanline.{begun_fetches, line_fetches, ended, next_scan}
use Rattle.nick.specs.Sync.{line_sync_count}
use Rattle.nick.specs.Record.{flags, fetching_slots, vc1, line_record}
use Rattle.nick.specs.declared.Pointers.{Pointers}
use Rattle.nick.specs.declared.Scan.{Scan}
use Rattle.nick.specs.declared.State.{State}
use Rattle.scanline.specs.PaintedLine.{slots_end, ended_at}

-- the fetches of a load
pub load_length : (t : Bool) (n : ℕ) → length (cond t (block_addresses n) []) ≡ cond t 16 0
unfolding block_addresses
load_length true n = length_tab (λ i. 16 * n + i) 16
load_length false n = refl

pub fetches_length : (t : Bool) (n : ℕ) (fetched : List ℕ) → length (cond t (block_addresses n) [] ++ fetched) ≡ cond t 16 0 + length fetched
fetches_length t n fetched = length-append (cond t (block_addresses n) []) fetched ∙ ap (λ (k : ℕ). k + length fetched) (load_length t n)

-- the end of a scanline whose slots have all passed
pub ended_at_lem : (c : Scan) → ended_at c (slots_end c) ≡ ended c
unfolding ended ended_at slots_end
ended_at_lem c = refl

module _ (s : State) (ram : List ℕ) (c : Scan) (begins : c ≡ begun s.registers ram s.scan) where
  -- the record's bytes, from the parts of the scanline
  pub record_is : (d : Scan) (p : Pointers) (load : Bool) (f l k y n v : ℕ)
      → d ≡ ended_at c p
      → load ≡ loads s.scan
      → f ≡ flags c.block s.virq load (eqb d.left 0)
      → y ≡ line_sync_count c.block s.sync
      → l ≡ cond load 16 0
      → k ≡ length (begun_fetches ram c)
      → n ≡ fetching_slots c.block
      → v ≡ vc1 s.registers
      → f ∷ y ∷ (l + k) ∷ n ∷ v ∷ low d.number ∷ high d.number ∷ [] ≡ line_record ram s
  unfolding line_record line_fetches next_scan ended ended_at
  record_is d p load f l k y n v hd hload hf hy hl hk hn hv =
      rw (
        hf,
        hd,
        hy,
        hl,
        hk,
        hn,
        hv,
        hload,
        begins,
        length-append (cond (loads s.scan) (block_addresses (loaded_number s.registers s.scan)) []) (begun_fetches ram (begun s.registers ram s.scan)),
        load_length (loads s.scan) (loaded_number s.registers s.scan),
      )
