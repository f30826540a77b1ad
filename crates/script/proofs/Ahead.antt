-- The steps ahead of a place in a script: the one that stands there, and those after it; none past the last whole step.
use mathlib.Core.Path.{◌≡◌, refl, ◌∙◌}
use mathlib.Core.List.{List, [], ◌∷◌}
use Prim.Native.Nat.{ℕ, suc, ◌+◌, ◌*◌, ◌/◌, ◌<◌, ◌≤◌}
use native.Mathlib.Omega.{arith}
use lib.ListN.{length, get_or, take, drop, length-drop}
use lib.Seq.{drop-cons, get_or-take, get_or-drop}
use native.Mathlib.Nat.{add-zero}
use Rattle.std.specs.Simd.{first_chunks}
use Rattle.lists.proofs.Laws.{chunk_at}
use Rattle.nick.specs.Numbers.{byte_at}
use Rattle.script.specs.Steps.{Step, step_of, steps_of}
use Rattle.script.specs.Answers.{step_in}

-- step `place` of a script
abbrev pub step_at : List ℕ → ℕ → Step
step_at script place = step_of (byte_at script (3 * place)) (byte_at script (3 * place + 1)) (byte_at script (3 * place + 2))

-- it is that of its three bytes
pub step_chunk :
    (script : List ℕ) (place count : ℕ) → place < count → step_in (get_or (first_chunks 3 count script) place []) ≡ step_at script place
step_chunk script place count h =
    rw (chunk_at 3 count place script h, byte 0 (omega arith), byte 1 (omega arith), byte 2 (omega arith), add-zero (3 * place)) refl
  where
    byte : (i : ℕ) → i < 3 → byte_at (take 3 (drop (3 * place) script)) i ≡ byte_at script (3 * place + i)
    byte i l = get_or-take 3 (drop (3 * place) script) i 0 l ∙ get_or-drop (3 * place) script i 0

abbrev pub ahead : List ℕ → ℕ → List Step
ahead script place = steps_of (drop (3 * place) script)

pub ahead_more :
    (script : List ℕ) (place : ℕ) → 3 * place + 3 ≤ length script
    → ahead script place ≡ step_at script place ∷ ahead script (place + 1)
ahead_more script place h =
    let at = 3 * place in
    let one : suc at ≡ at + 1 = omega arith in
    let two : suc (at + 1) ≡ at + 2 = omega arith in
    let three : suc (at + 2) ≡ 3 * (place + 1) = omega arith in
    rw (
      drop-cons script at 0 (omega arith),
      one,
      drop-cons script (at + 1) 0 (omega arith),
      two,
      drop-cons script (at + 2) 0 (omega arith),
      three,
    )
    refl

-- by the chunks of the script
pub ahead_here :
    (script : List ℕ) (place : ℕ) → place < length script / 3
    → ahead script place ≡ step_in (get_or (first_chunks 3 (length script / 3) script) place []) ∷ ahead script (place + 1)
ahead_here script place h = rw (step_chunk script place (length script / 3) h) (ahead_more script place (omega arith))

-- fewer than three bytes are no step
short : (bytes : List ℕ) → length bytes < 3 → steps_of bytes ≡ []
short [] h = refl
short (kind ∷ []) h = refl
short (kind ∷ port ∷ []) h = refl
short (kind ∷ port ∷ value ∷ more) h = absurd (omega (arith, h))

pub ahead_none : (script : List ℕ) (place : ℕ) → length script < 3 * place + 3 → ahead script place ≡ []
ahead_none script place h = short (drop (3 * place) script) (rw (length-drop (3 * place) script) (omega arith))
