-- What a record shows that is read where it stands.
use Rattle.std.specs.Prelude.{◌==◌, ℕ, if◌then◌else◌, ℤ, List, [], Option, Some, None}
use Rattle.msr_header.specs.declared.header.Header.{Header}
use Rattle.msr_rows.specs.Records.{data_area}
use Rattle.msr_rows.specs.declared.row.Key.{Key}
use Rattle.msr_rows.specs.declared.row.Row.{Row}
use Rattle.msr_rows.specs.declared.row.Record.{Record}

-- what a view shows: the header, the data area, and the record
pub record Viewed : Type 0 where
  pub header : Header
  pub area : List ℕ
  pub found : Record

-- the area of a record; one without samples has none
abbrev pub viewed_area : Header → List ℕ → List ℕ
viewed_area header bytes = if header.samples == 0 then [] else data_area header bytes

-- the key and the start of a row
abbrev pub key_and_start : Option Row → Option (Key × ℤ)
key_and_start None = None
key_and_start (Some row) = Some (row.key, row.start)

-- the samples of a row, if there is one
abbrev pub samples_of_row : Option Row → List ℤ
samples_of_row None = []
samples_of_row (Some row) = row.samples
