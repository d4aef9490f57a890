-- What a reader of rows shows, and what reading them does.
use Rattle.std.specs.Prelude.{◌≡◌, true, List, [], ◌∷◌, ◌++◌, Option, None, Some, MatchOption}
use Rattle.std.specs.Option.{option_to_list}
use Rattle.msr_rows.specs.declared.row.Record.{Record}
use Rattle.msr_rows.specs.declared.row.Row.{Row}
use Rattle.msr_devices.specs.Device.{Device}
use Rattle.msr_segments.specs.Spans.{Following, TakesStep}
use Rattle.msr_segments.specs.Segments.{row_segment, row_span}
use Rattle.msr_segments.specs.Joining.{Joining, HasJoined, HasFollowed}
use Rattle.msr_segments.specs.declared.follow.Step.{Step}
use Rattle.msr_segments.specs.declared.joiner.Segment.{Segment}
use Rattle.msr_input.specs.Input.{NoneOverruns, HaveBegun, rows_of_records}
use Rattle.msr_input.specs.Records.{Position, HaveCome}
use Rattle.msr_input.specs.Outlines.{row_outline}
use Rattle.msr_input.specs.Reading.{StopsReading, GaveReadable, IsWritable}
use Rattle.msr_input.specs.declared.settings.Settings.{Settings}
use Rattle.msr_input.specs.declared.fault.ReadFault.{ReadFault}
use Rattle.msr_input.specs.declared.outline.RowOutline.{RowOutline}
use Rattle.msr_input.specs.declared.row_reader.NextOutline.{NextOutline}
use Rattle.msr_input.specs.declared.row_reader.NextRecord.{NextRecord}
use Rattle.msr_input.specs.declared.row_reader.NextRow.{NextRow}

-- what a reader of rows shows: its place in the input, and its follower
pub record RowReading : Type 0 where
  pub position : Position
  pub following : Following

-- how a reader of rows reads: its tolerance, and whether strictly
abbrev pub row_settings : RowReading → Settings
row_settings reading = record { tolerance = reading.following.tolerance; strict = reading.position.strict }

-- From the one state of the source to the other these records came, none refused; the rest waits. These answers
-- were given for their rows.
pub record HasReadRows (start now : Device) (reading : RowReading) (records : List Record)
    (answers : List Step) : Type 0 where
  pub came : HaveCome start now reading.position records
  pub in_range : NoneOverruns reading.following.tolerance records
  pub followed : HasFollowed reading.following (rows_of_records records) answers

-- Further records came, and with them one row: this one, which does what is told.
pub record ReadsRow (start now : Device) (reading : RowReading) (records : List Record) (answers : List Step)
    (next : NextRow) : Type 0 where
  pub after : List Record
  pub rows : rows_of_records after ≡ rows_of_records records ++ next.row ∷ []
  pub read : HasReadRows start now reading after (answers ++ next.step ∷ [])

-- Further records came, and with them one row, whose samples were not read into memory: this is its outline. The row
-- can be written.
pub record ReadsOutline (start now : Device) (reading : RowReading) (records : List Record) (answers : List Step)
    (next : NextOutline) : Type 0 where
  pub row : Row
  pub outline_is : next.row ≡ row_outline row
  pub writable : IsWritable (row_segment row)
  pub reads : ReadsRow start now reading records answers (record { step = next.step; row = row })

-- Further records came, and no row with them.
pub record ReadsNoRow (start now : Device) (reading : RowReading) (records : List Record)
    (answers : List Step) : Type 0 where
  pub after : List Record
  pub rows : rows_of_records after ≡ rows_of_records records
  pub read : HasReadRows start now reading after answers

-- the row that is told of a record, and what it does
abbrev pub row_told : Option NextRow → Option Row
row_told None = None
row_told (Some next) = Some next.row

abbrev pub answer_told : Option NextRow → List Step
answer_told None = []
answer_told (Some next) = next.step ∷ []

-- Exactly one record more came: it has that many bytes, and that row, which does what is told, or none.
pub record ReadsOne (start now : Device) (reading : RowReading) (records : List Record) (answers : List Step)
    (next : NextRecord) : Type 0 where
  pub found : Record
  pub length_is : next.length ≡ found.length
  pub row_is : row_told next.row ≡ found.row
  pub read : HasReadRows start now reading (records ++ found ∷ []) (answers ++ answer_told next.row)

-- No record came, and none is left: the input has ended.
pub record ReadsNone (start now : Device) (reading : RowReading) (records : List Record)
    (answers : List Step) : Type 0 where
  pub read : HasReadRows start now reading records answers
  pub none_wait : reading.position.waiting ≡ []
  pub ended : reading.position.ended ≡ true

-- One record more came: without a row, or with this one, which does what is told.
abbrev pub ReadsRecord : Device → Device → RowReading → List Record → List Step → NextRecord → Type 0
ReadsRecord start now reading records answers next =
    MatchOption next.row (ReadsNoRow start now reading records answers) (ReadsRow start now reading records answers)

-- what is told of a record: the answer for its row, if it has one
abbrev pub next_row : Option Step → Option Row → Option NextRow
next_row (Some answer) (Some row) = Some (record { step = answer; row = row })
next_row _ _ = None

-- what is told of a record whose samples were not read into memory: the answer for its row, if it has one
abbrev pub next_outline : Option Step → Option RowOutline → Option NextOutline
next_outline (Some answer) (Some row) = Some (record { step = answer; row = row })
next_outline _ _ = None

-- what a record does with a follower: nothing, if it has no row
abbrev pub StepsTo : Following → Option NextRow → Following → Type 0
StepsTo old None new = new ≡ old
StepsTo old (Some next) new = TakesStep old (row_span next.row) next.step new

-- Further records came, and no row with them, and no record is left: the input has ended.
pub record ReadsToEnd (start now : Device) (reading : RowReading) (records : List Record)
    (answers : List Step) : Type 0 where
  pub none : ReadsNoRow start now reading records answers
  pub none_wait : reading.position.waiting ≡ []
  pub ended : reading.position.ended ≡ true

-- Why no row was given, of the segments that the rows before it began, and of each list of some first ones of these.
abbrev pub StopsRows : Settings → Device → Device → List Record → ReadFault → Type 0
StopsRows settings start now records why =
    (given : List Segment) → HaveBegun settings.tolerance records given → StopsReading settings start now given why

-- When all records came the input is readable, and its segments are those of a joiner of the same rows, the last
-- one included.
abbrev pub AllRowsAreReadable : Type 0
AllRowsAreReadable =
    (start now : Device) (reading : RowReading) (records : List Record) (answers : List Step) (joining : Joining)
    (given : List Segment)
    → ReadsToEnd start now reading records answers
    → HasJoined joining (rows_of_records records) given
    → joining.tolerance ≡ reading.following.tolerance
    → GaveReadable start (row_settings reading) (given ++ option_to_list joining.current) reading.position.counts
