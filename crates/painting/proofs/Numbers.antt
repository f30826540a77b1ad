-- Every refusal has a number.
use Rattle.std.proofs.Common.{◌≡◌, false, true≢false, eqb, refl, sym, ap, ◌∙◌}
use Rattle.nick.specs.Refusals.{number_of}
use Rattle.nick.specs.declared.refusal.Refusal.{Refusal}
use Rattle.nick.specs.declared.refusal.Refusal.TheVariants.{
  ForeignPort,
  ReservedPort,
  IllFormedState,
  RamLength,
  Height,
  DotsLength,
  RecordsLength,
  ExternalLength,
  Place,
  OutputLength,
  StampedRecord,
  Script,
  EncodedLength,
}

pub some_number : (r : Refusal) → eqb (number_of r) 0 ≡ false
some_number ForeignPort = refl
some_number ReservedPort = refl
some_number IllFormedState = refl
some_number RamLength = refl
some_number Height = refl
some_number DotsLength = refl
some_number RecordsLength = refl
some_number ExternalLength = refl
some_number Place = refl
some_number OutputLength = refl
some_number StampedRecord = refl
some_number Script = refl
some_number EncodedLength = refl

pub no_zero : (r : Refusal) → number_of r ≡ 0 → ⊥
no_zero r e = true≢false (sym (ap (λ n. eqb n 0) e) ∙ some_number r)
