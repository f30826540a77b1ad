-- What is said of an answer determines it: answers with the same number and values are the same.
use mathlib.Core.Path.{◌≡◌, refl, sym, ap, ◌∙◌}
use mathlib.Core.List.{List, [], ◌∷◌}
use Prim.Native.Nat.{ℕ}
use Rattle.std.specs.Prelude.{Result, Ok, Err, get_or}
use Rattle.nick.specs.Direct.{Answered, refused, shows, addresses_of, answered}
use Rattle.nick.specs.Listing.{ListAnswered, list_refused, list_length, list_answered}
use Rattle.nick.specs.Refusals.{number_of}
use Rattle.nick.specs.declared.Sources.{Sources}
use Rattle.nick.specs.declared.Sources.TheVariants.{Nothing, One, Two}
use Rattle.nick.specs.declared.Answer.{Answer}
use Rattle.nick.specs.declared.refusal.Refusal.{Refusal}
use Rattle.nick.specs.declared.refusal.Refusal.TheVariants.{
  ForeignPort,
  ReservedPort,
  IllFormedState,
  RamLength,
  Height,
  DotsLength,
  RecordsLength,
  ExternalLength,
  Place,
  OutputLength,
  StampedRecord,
  Script,
  EncodedLength,
}

-- a refusal by its number; the last for every number that is no other's
abbrev refusal_from : ℕ → Refusal
refusal_from n =
    get_or
    (EncodedLength ∷ ForeignPort ∷ ReservedPort ∷ IllFormedState ∷ RamLength ∷ Height ∷ DotsLength ∷ RecordsLength
    ∷ ExternalLength ∷ Place ∷ OutputLength ∷ EncodedLength ∷ StampedRecord
    ∷ EncodedLength ∷ EncodedLength ∷ EncodedLength ∷ EncodedLength ∷ EncodedLength ∷ EncodedLength ∷ Script ∷ [])
    n
    EncodedLength

refusal_back : (r : Refusal) → refusal_from (number_of r) ≡ r
refusal_back ForeignPort = refl
refusal_back ReservedPort = refl
refusal_back IllFormedState = refl
refusal_back RamLength = refl
refusal_back Height = refl
refusal_back DotsLength = refl
refusal_back RecordsLength = refl
refusal_back ExternalLength = refl
refusal_back Place = refl
refusal_back OutputLength = refl
refusal_back StampedRecord = refl
refusal_back Script = refl
refusal_back EncodedLength = refl

pub number_determines : (r q : Refusal) → number_of r ≡ number_of q → r ≡ q
number_determines r q e = sym (refusal_back r) ∙ (ap refusal_from e ∙ refusal_back q)

abbrev sources_from : List ℕ → Sources
sources_from [] = Nothing
sources_from (a ∷ []) = One a
sources_from (a ∷ b ∷ more) = Two a b

sources_back : (s : Sources) → sources_from (addresses_of s) ≡ s
sources_back Nothing = refl
sources_back (One a) = refl
sources_back (Two a b) = refl

abbrev answer_from : Answered → Result Answer Refusal
answer_from (refused n) = Err (refusal_from n)
answer_from (shows dot) = Ok (record { colour = dot.colour; sources = sources_from dot.names })

answer_back : (a : Result Answer Refusal) → answer_from (answered a) ≡ a
answer_back (Ok a) = rw (sources_back a.sources)
answer_back (Err r) = rw (refusal_back r)

pub answered_determines : (a b : Result Answer Refusal) → answered a ≡ answered b → a ≡ b
answered_determines a b e = sym (answer_back a) ∙ (ap answer_from e ∙ answer_back b)

abbrev listed_from : ListAnswered → Result ℕ Refusal
listed_from (list_refused n) = Err (refusal_from n)
listed_from (list_length n) = Ok n

listed_back : (l : Result ℕ Refusal) → listed_from (list_answered l) ≡ l
listed_back (Ok n) = refl
listed_back (Err r) = rw (refusal_back r)

pub list_answered_determines : (a b : Result ℕ Refusal) → list_answered a ≡ list_answered b → a ≡ b
list_answered_determines a b e = sym (listed_back a) ∙ (ap listed_from e ∙ listed_back b)
