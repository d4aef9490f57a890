-- The length of a record as a number.
use Rattle.std.specs.Prelude.{ℕ}
use Rattle.msr_base.specs.declared.lengths.Length.{Length}

-- how many bytes a record of that length has
abbrev pub bytes_of : Length → ℕ
bytes_of record_length = record_length.bytes
