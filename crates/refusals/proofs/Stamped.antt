-- Record by record, in the order in which they stand: one begins with 255 exactly if the rules say so.
use Rattle.std.proofs.Common.{◌≡◌, ℕ, zero, suc, ◌+◌, ◌*◌, ◌/◌, ◌||◌, Bool, List, eqb, length, get_or, drop, refl, sym, arith}
use Rattle.std.specs.List.{list_any}
use Rattle.std.specs.Simd.{first_chunks}
use Rattle.std.proofs.Math.Seq.{get_or-take, get_or-drop}
use mathlib.Core.Bool.{or-false, or_assoc}
use Rattle.nick.specs.Sizes.{record_bytes}
use Rattle.nick.specs.Numbers.{byte_at}
use Rattle.nick.specs.Refusals.{any_stamped}

-- of one record more, the first
stamped_more : (n : ℕ) (records : List ℕ) → any_stamped (suc n) records ≡ (eqb (byte_at records 0) 255 || any_stamped n (drop record_bytes records))
stamped_more zero records = sym (or-false (eqb (byte_at records 0) 255))
stamped_more (suc n) records =
    let next : record_bytes + record_bytes * n ≡ record_bytes * suc n = omega arith in
    rw (stamped_more n records, get_or-drop record_bytes records (record_bytes * n) 0, next)
    (or_assoc (eqb (byte_at records 0) 255) (any_stamped n (drop record_bytes records)) (eqb (byte_at records (record_bytes * suc n)) 255))

-- the records as chunks
any_record : (n : ℕ) (records : List ℕ) → list_any (λ bytes. eqb (get_or bytes 0 0) 255) (first_chunks record_bytes n records) ≡ any_stamped n records
any_record zero records = refl
any_record (suc n) records =
    rw (get_or-take record_bytes records 0 0 (omega arith), any_record n (drop record_bytes records)) (sym (stamped_more n records))

-- what a test of each chunk answers
pub stamped_records :
    (records : List ℕ) (chunks : List (List ℕ)) (r : Bool)
    → r ≡ list_any (λ bytes. eqb (get_or bytes 0 0) 255) chunks
    → chunks ≡ first_chunks record_bytes (length records / record_bytes) records
    → r ≡ any_stamped (length records / record_bytes) records
stamped_records records chunks r e front = rw (e, front) (any_record (length records / record_bytes) records)
