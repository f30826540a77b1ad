-- A line sees no external bytes but its own, so those of its part are as good as all.
use mathlib.Core.Path.{◌≡◌, refl, sym, ap, ◌∙◌}
use mathlib.Core.Bool.{Bool, true, false}
use mathlib.Core.List.{List, ◌++◌}
use Prim.Native.Nat.{ℕ, ◌+◌, ◌-◌, ◌*◌, ◌/◌, ◌%◌, ◌<◌, ◌≤◌, min}
use native.Mathlib.Omega.{arith}
use lib.Dec.{ltb}
use lib.ListN.{length, get_or, take, drop, length-take, get_or-eq_default}
use lib.Seq.{get_or-take, get_or-drop, ext_get_or}
use borrow.Rule.Slice.PartMut.{put_mid}
use Rattle.nick.specs.Sizes.{record_bytes}
use borrow.Author.Tests.{ltb-true, ltb-false}
use Rattle.nick.specs.Numbers.{byte_at}
use Rattle.nick.specs.Blocks.{begun}
use Rattle.nick.specs.Scanline.{line_dots}
use Rattle.nick.specs.Painting.{external_at}
use Rattle.nick.specs.declared.Registers.{Registers}
use Rattle.nick.specs.declared.Scan.{Scan}
use Rattle.laws.proofs.LineDots.{slot_colour, length_line, line_dot}

-- byte x of the part that starts at a and has w bytes, as far as the list goes
part_byte : (e : List ℕ) (a w from to x : ℕ) → from ≡ min a (length e) → to ≡ min (a + w) (length e) → x < w
    → get_or (take (to - from) (drop from e)) x 0 ≡ get_or e (a + x) 0
part_byte e a w from to x p q h = go (ltb x (to - from)) refl
  where
    go : (t : Bool) → ltb x (to - from) ≡ t → get_or (take (to - from) (drop from e)) x 0 ≡ get_or e (a + x) 0
    go true l =
        let inside = ltb-true x (to - from) l in
        let place : from + x ≡ a + x = omega arith in
        get_or-take (to - from) (drop from e) x 0 inside ∙ get_or-drop from e x 0 ∙ ap (λ (k : ℕ). get_or e k 0) place
    go false l =
        let outside = ltb-false x (to - from) l in
        let short : length (take (to - from) (drop from e)) ≤ x = simp length-take (omega arith) in
        let past : length e ≤ a + x = omega arith in
        get_or-eq_default (take (to - from) (drop from e)) 0 {n = x} short ∙ sym (get_or-eq_default e 0 {n = a + x} past)

-- a line's dots, where its 736 external bytes are the same
pub lines_same : (g : Registers) (ram : List ℕ) (c : Scan) (f h : ℕ → ℕ) → ((x : ℕ) → x < 736 → f x ≡ h x)
    → line_dots g ram c f ≡ line_dots g ram c h
lines_same g ram c f h same =
    ext_get_or 0 (line_dots g ram c f) (line_dots g ram c h) (length_line g ram c f ∙ sym (length_line g ram c h)) (λ x l.
    let in-line : x < 736 = omega (arith, length_line g ram c f) in
    line_dot g ram c f x in-line
    ∙ ap (λ (b : ℕ). slot_colour g ram (begun g ram c) (x / 16) (x % 16) b) (same x in-line)
    ∙ sym (line_dot g ram c h x in-line))

pub own_line : (g : Registers) (ram : List ℕ) (c : Scan) (external : List ℕ) (y from to : ℕ)
    → from ≡ min (736 * y) (length external) → to ≡ min (736 * y + 736) (length external)
    → line_dots g ram c (byte_at (take (to - from) (drop from external))) ≡ line_dots g ram c (external_at external y)
own_line g ram c external y from to p q =
    lines_same g ram c (byte_at (take (to - from) (drop from external))) (external_at external y)
    (λ x l. part_byte external (736 * y) 736 from to x p q l)

-- the part of a buffer that line y has, put back
pub dots_put : (y k : ℕ) (buffer part : List ℕ) → k ≡ 736 → put_mid (736 * y) k buffer part ≡ take (736 * y) buffer ++ (part ++ drop 736 (drop (736 * y) buffer))
dots_put y k buffer part e = rw e refl

pub record_put : (y k : ℕ) (buffer part : List ℕ) → k ≡ record_bytes → put_mid (record_bytes * y) k buffer part ≡ take (record_bytes * y) buffer ++ (part ++ drop record_bytes (drop (record_bytes * y) buffer))
record_put y k buffer part e = rw e refl
