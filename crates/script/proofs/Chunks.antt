-- The steps of a script by their three bytes.
use Rattle.std.proofs.Common.{◌≡◌, ℕ, suc, ◌+◌, ◌/◌, Bool, true, false, cond, List, [], ◌∷◌, map, eqb, length, get_or, refl, sym, ap, ◌∙◌, arith, zero-add, count_by}
use Rattle.std.proofs.lemmas.List.Recursion.{is_count_by}
use Rattle.std.specs.Simd.{first_chunks}
use Rattle.lists.specs.Number.{number}
use Rattle.nick.specs.Numbers.{byte_at}
use Rattle.script.specs.Steps.{Step, steps_of, lines_in}
use Rattle.script.specs.Answers.{step_in}
use Rattle.script.proofs.StepLaws.{paints_kind}

steps_chunks : (script : List ℕ) → map step_in (first_chunks 3 (length script / 3) script) ≡ steps_of script
steps_chunks [] = refl
steps_chunks (kind ∷ []) = refl
steps_chunks (kind ∷ port ∷ []) = refl
steps_chunks (kind ∷ port ∷ value ∷ more) =
    let next : suc (suc (suc (length more))) / 3 ≡ suc (length more / 3) = omega arith in
    rw next (ap (λ (l : List Step). step_in (kind ∷ port ∷ value ∷ []) ∷ l) (steps_chunks more))

-- those of kind 1 are the lines that the script asks for
abbrev paints_line : List ℕ → Bool
paints_line bytes = eqb (get_or bytes 0 0) 1

line_or_none : (t : Bool) (n : ℕ) → number t + n ≡ cond t (1 + n) n
line_or_none true n = refl
line_or_none false n = zero-add n

counted : (chunks : List (List ℕ)) → lines_in (map step_in chunks) ≡ count_by paints_line chunks
counted = is_count_by (λ chunks. lines_in (map step_in chunks)) paints_line refl (λ bytes more.
    rw (paints_kind (byte_at bytes 0) (byte_at bytes 1) (byte_at bytes 2)) (line_or_none (paints_line bytes) (lines_in (map step_in more))))

pub lines_counted : (script : List ℕ) → count_by (λ bytes. eqb (get_or bytes 0 0) 1) (first_chunks 3 (length script / 3) script) ≡ lines_in (steps_of script)
lines_counted script = sym (counted (first_chunks 3 (length script / 3) script)) ∙ ap lines_in (steps_chunks script)
