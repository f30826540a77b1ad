-- Document 01, "Buffers and refusal numbers", with document 02, item 7: the size that the records are counted in.
use Rattle.std.specs.Prelude.{ℕ}

-- item 7: "Records grow from 4 to 7 bytes"
abbrev pub record_bytes : ℕ
record_bytes = 7
