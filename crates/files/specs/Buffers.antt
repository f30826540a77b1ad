-- The buffers of a painting program as a run gets them.
use Rattle.std.specs.Prelude.{replicate}
use Rattle.files.specs.declared.buffers.Buffers.{Buffers}

-- 0 in every byte
abbrev pub blank : Buffers
blank = record { ram = replicate 65537 0; dots = replicate 753664 0; records = replicate 7168 0; external = replicate 753665 0 }
