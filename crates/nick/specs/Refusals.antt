-- Document 01, "Buffers and refusal numbers": the tests of the table. A call tests its numbers in rising order, so that
-- "the smallest number is given"; 0 stands for no refusal. Number 11 is given by nothing (document 02, item 9): claims
-- specs/InsideRam has what it said, and why it cannot be met.
use Rattle.std.specs.Prelude.{ℕ, zero, suc, Result, Ok, Err, ◌*◌, ◌<◌, ◌≤◌, ◌≡◌, Bool, false, not, cond, ◌||◌, List, eqb, ltb, length}
use Rattle.nick.specs.Sizes.{record_bytes}
use Rattle.nick.specs.Numbers.{byte_at}
use Rattle.nick.specs.declared.Scan.{Scan}
use Rattle.nick.specs.declared.State.{State}
use Rattle.nick.specs.declared.refusal.Refusal.{Refusal}
use Rattle.nick.specs.declared.refusal.Refusal.TheVariants.{
  ForeignPort,
  ReservedPort,
  IllFormedState,
  RamLength,
  Height,
  DotsLength,
  RecordsLength,
  ExternalLength,
  Place,
  OutputLength,
  StampedRecord,
  Script,
  EncodedLength,
}
use Rattle.nick.specs.declared.refusal.UnknownRefusal.{UnknownRefusal}

-- the number of each refusal
abbrev pub number_of : Refusal → ℕ
number_of ForeignPort = 1
number_of ReservedPort = 2
number_of IllFormedState = 3
number_of RamLength = 4
number_of Height = 5
number_of DotsLength = 6
number_of RecordsLength = 7
number_of ExternalLength = 8
number_of Place = 9
number_of OutputLength = 10
number_of StampedRecord = 12
number_of Script = 19
number_of EncodedLength = 20

-- the number that a call gives, 0 where it is not refused
abbrev pub refusal_in : {A : Type 0} → Result A Refusal → ℕ
refusal_in (Ok a) = 0
refusal_in (Err refusal) = number_of refusal

-- the number that was asked for: a refusal's, or no refusal's
abbrev pub number_asked : Result Refusal UnknownRefusal → ℕ
number_asked (Ok refusal) = number_of refusal
number_asked (Err unknown) = unknown.0

-- 3: "state: scanlines left over 256, or block number over 4,095"
abbrev pub ill_formed : Scan → Bool
ill_formed c = ltb 256 c.left || ltb 4095 c.number

-- "A state is well-formed if refusal 3 doesn't apply": the bounds that it then has
pub record Formed (c : Scan) : Type 0 where
  pub left : c.left ≤ 256
  pub number : c.number < 4096

-- 4: "RAM not 65,536 bytes"
abbrev pub not_full : List ℕ → Bool
not_full ram = not (eqb (length ram) 65536)

-- 5: "height 0 or over 1,024"
abbrev pub bad_height : ℕ → Bool
bad_height h = eqb h 0 || ltb 1024 h

-- 6: "dot buffer not 736 times the height"
abbrev pub bad_dots : ℕ → List ℕ → Bool
bad_dots h dots = not (eqb (length dots) (736 * h))

-- 7: "record buffer not .. times the height"; document 02, item 7: "Refusal 7 now asks 7 times the height."
abbrev pub bad_records : ℕ → List ℕ → Bool
bad_records h records = not (eqb (length records) (record_bytes * h))

-- 8: "external input neither empty nor 736 times the height"
abbrev pub bad_external : ℕ → List ℕ → Bool
bad_external h external = not (eqb (length external) 0 || eqb (length external) (736 * h))

-- 9: "direct answer: line over 1,023 or dot over 735"
abbrev pub bad_place : ℕ → ℕ → Bool
bad_place line dot = ltb 1023 line || ltb 735 dot

-- 12 (document 02, item 1): "if any record .. begins with 255", of the first n records
abbrev pub any_stamped : ℕ → List ℕ → Bool
any_stamped zero records = false
any_stamped (suc n) records = any_stamped n records || eqb (byte_at records (record_bytes * n)) 255

-- "3, 4 .. for painting and the direct answer; 5 to 8 for painting"
unfoldable pub painting_refusal : State → List ℕ → ℕ → List ℕ → List ℕ → List ℕ → ℕ
painting_refusal s ram h dots records external =
    cond (ill_formed s.scan) 3
    (cond (not_full ram) 4
    (cond (bad_height h) 5
    (cond (bad_dots h dots) 6
    (cond (bad_records h records) 7
    (cond (bad_external h external) 8 0)))))

-- 3 to 8 of a call that paints h lines; `five` is the test of its height, which is not the same for every such call
unfoldable pub lines_refusal : Bool → State → List ℕ → ℕ → List ℕ → List ℕ → List ℕ → ℕ
lines_refusal five s ram h dots records external =
    cond (ill_formed s.scan) 3
    (cond (not_full ram) 4
    (cond five 5
    (cond (bad_dots h dots) 6
    (cond (bad_records h records) 7
    (cond (bad_external h external) 8 0)))))

-- what the tests say of a painting that is not refused
pub record Accepted (s : State) (ram : List ℕ) (h : ℕ) (dots records : List ℕ) : Type 0 where
  pub formed : Formed s.scan
  pub full : length ram ≡ 65536
  pub height : h ≤ 1024
  pub places : length dots ≡ 736 * h
  pub bytes : length records ≡ record_bytes * h

-- "3, 4 .. for painting and the direct answer; .. 9 for the direct answer"
unfoldable pub direct_refusal : State → List ℕ → ℕ → ℕ → ℕ
direct_refusal s ram line dot =
    cond (ill_formed s.scan) 3
    (cond (not_full ram) 4
    (cond (bad_place line dot) 9 0))

-- "4 and 10 for the listing"; 10: "output shorter than the whole listing"
unfoldable pub listing_refusal : List ℕ → List ℕ → List ℕ → ℕ
listing_refusal ram text out = cond (not_full ram) 4 (cond (ltb (length out) (length text)) 10 0)
