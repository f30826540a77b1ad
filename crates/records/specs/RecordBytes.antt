-- A line record as its bytes.
use Rattle.std.specs.Prelude.{ℕ, List, [], ◌∷◌}
use Rattle.nick.specs.Numbers.{low, high}
use Rattle.records.specs.declared.record.Record.{Record}

abbrev pub bytes_of : Record → List ℕ
bytes_of r =
    r.flags ∷ r.sync ∷ r.fetched ∷ r.slots ∷ r.vc1 ∷ low r.number ∷ high r.number ∷ []
