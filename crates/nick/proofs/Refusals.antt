-- What the tests of the refusal table say where they do not refuse: one by one, of a direct answer and of a painting; and
-- when a record is stamped.
use mathlib.Core.Path.{◌≡◌, refl, sym, ◌∙◌}
use mathlib.Core.Bool.{Bool, true, false, ◌||◌, or-true}
use mathlib.Core.List.{List}
use Prim.Native.Nat.{ℕ, zero, suc, ◌*◌, ◌<◌, ◌≤◌}
use native.Mathlib.Nat.{not-suc-le-zero}
use native.Mathlib.Decide.{dec_lt}
use native.Mathlib.Omega.{arith}
use lib.Dec.{eqb, ltb}
use lib.ListN.{length}
use borrow.Author.Tests.{ltb-false, eqb-true, not-false, eq-eqb, ne_eqb}
use Rattle.lists.proofs.Tests.{or_first, or_rest, not_chosen, rest_zero}
use Rattle.nick.specs.Sizes.{record_bytes}
use Rattle.nick.specs.Numbers.{byte_at}
use Rattle.nick.specs.Refusals.{ill_formed, Formed, not_full, bad_height, bad_dots, bad_records, bad_external, any_stamped, bad_place, lines_refusal, painting_refusal, Accepted, direct_refusal}
use Rattle.nick.specs.declared.State.{State}
use Rattle.nick.proofs.WellFormed.{formed}

pub full : (ram : List ℕ) → not_full ram ≡ false → length ram ≡ 65536
full ram e = eqb-true (length ram) 65536 (not-false (eqb (length ram) 65536) e)

pub height_most : (h : ℕ) → bad_height h ≡ false → h ≤ 1024
height_most h e = ltb-false 1024 h (or_rest (eqb h 0) (ltb 1024 h) e)

pub line_most : (y x : ℕ) → bad_place y x ≡ false → y ≤ 1023
line_most y x e = ltb-false 1023 y (or_first (ltb 1023 y) (ltb 735 x) e)

pub dot_most : (y x : ℕ) → bad_place y x ≡ false → x ≤ 735
dot_most y x e = ltb-false 735 x (or_rest (ltb 1023 y) (ltb 735 x) e)

-- what the tests say of a direct answer that is not refused
pub record Answerable (s : State) (ram : List ℕ) (y x : ℕ) : Type 0 where
  pub formed : Formed s.scan
  pub full : length ram ≡ 65536
  pub line : y ≤ 1023
  pub dot : x ≤ 735

pub answerable : (s : State) (ram : List ℕ) (y x : ℕ) → direct_refusal s ram y x ≡ 0 → Answerable s ram y x
unfolding direct_refusal
answerable s ram y x e =
    let past-state = rest_zero (ill_formed s.scan) 2 _ e in
    let place = not_chosen (bad_place y x) 8 0 (rest_zero (not_full ram) 3 _ past-state) in
    record {
      formed = formed s.scan (not_chosen (ill_formed s.scan) 2 _ e);
      full = full ram (not_chosen (not_full ram) 3 _ past-state);
      line = line_most y x place;
      dot = dot_most y x place;
    }

pub accepted_lines :
    (five : Bool) (s : State) (ram : List ℕ) (h : ℕ) (dots records external : List ℕ)
    → (five ≡ false → h ≤ 1024)
    → lines_refusal five s ram h dots records external ≡ 0
    → Accepted s ram h dots records
unfolding lines_refusal
accepted_lines five s ram h dots records external most e =
    let past-state = rest_zero (ill_formed s.scan) 2 _ e in
    let past-ram = rest_zero (not_full ram) 3 _ past-state in
    let past-height = rest_zero five 4 _ past-ram in
    let past-dots = rest_zero (bad_dots h dots) 5 _ past-height in
    record {
      formed = formed s.scan (not_chosen (ill_formed s.scan) 2 _ e);
      full = full ram (not_chosen (not_full ram) 3 _ past-state);
      height = most (not_chosen five 4 _ past-ram);
      places = eqb-true (length dots) (736 * h) (not-false _ (not_chosen (bad_dots h dots) 5 _ past-height));
      bytes = eqb-true (length records) (record_bytes * h) (not-false _ (not_chosen (bad_records h records) 6 _ past-dots));
    }

-- external input then fits as well
pub external_fits :
    (five : Bool) (s : State) (ram : List ℕ) (h : ℕ) (dots records external : List ℕ)
    → lines_refusal five s ram h dots records external ≡ 0
    → bad_external h external ≡ false
unfolding lines_refusal
external_fits five s ram h dots records external e =
    let past-ram = rest_zero (not_full ram) 3 _ (rest_zero (ill_formed s.scan) 2 _ e) in
    let past-dots = rest_zero (bad_dots h dots) 5 _ (rest_zero five 4 _ past-ram) in
    not_chosen (bad_external h external) 7 0 (rest_zero (bad_records h records) 6 _ past-dots)

-- a painting's table is that of a call that paints lines, with painting's own test of the height
pub painting_lines :
    (s : State) (ram : List ℕ) (h : ℕ) (dots records external : List ℕ)
    → painting_refusal s ram h dots records external ≡ lines_refusal (bad_height h) s ram h dots records external
unfolding painting_refusal lines_refusal
painting_lines s ram h dots records external = refl

pub accepted :
    (s : State) (ram : List ℕ) (h : ℕ) (dots records external : List ℕ)
    → painting_refusal s ram h dots records external ≡ 0
    → Accepted s ram h dots records
accepted s ram h dots records external e =
    accepted_lines (bad_height h) s ram h dots records external (height_most h) (sym (painting_lines s ram h dots records external) ∙ e)

-- 12 of n records: given where one of them begins with 255, and not given where none does
pub stamped_at :
    (n y : ℕ) (records : List ℕ) → y < n → byte_at records (record_bytes * y) ≡ 255 → any_stamped n records ≡ true
stamped_at zero y records h e = absurd (not-suc-le-zero h)
stamped_at (suc n) y records h e = go (stamped_at n y records) (dec_lt y n)
  where
    go :
        (y < n → byte_at records (record_bytes * y) ≡ 255 → any_stamped n records ≡ true)
        → Dec (y < n)
        → any_stamped n records || eqb (byte_at records (record_bytes * n)) 255 ≡ true
    go ih (yes l) = rw (ih l e) refl
    go ih (no l) =
        let last : y ≡ n = omega arith in
        rw (← last, eq-eqb (byte_at records (record_bytes * y)) 255 e) (or-true (any_stamped y records))

pub none_stamped :
    (n : ℕ) (records : List ℕ)
    → ((y : ℕ) → y < n → byte_at records (record_bytes * y) ≡ 255 → ⊥)
    → any_stamped n records ≡ false
none_stamped zero records h = refl
none_stamped (suc n) records h =
    rw (none_stamped n records (λ y l. h y (omega arith)), ne_eqb (byte_at records (record_bytes * n)) 255 (h n (omega arith)))
