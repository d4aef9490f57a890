-- What is known of one of two inputs while they are compared.
use Rattle.std.specs.Prelude.{◌≡◌, ℕ, ◌+◌, ◌*◌, ◌^◌, ◌<◌, ◌≤◌, Bool, true, false, List, [], ◌++◌, length, Option, None, Some}
use Rattle.std.specs.Option.{option_to_list}
use Rattle.msr_rows.specs.declared.row.Record.{Record}
use Rattle.msr_devices.specs.Device.{Device, CanCountCall, HasLeft, IsSteady}
use Rattle.msr_segments.specs.Joining.{Joining, HasJoined, following_of}
use Rattle.msr_segments.specs.declared.follow.Step.{Step}
use Rattle.msr_segments.specs.declared.joiner.Segment.{Segment}
use Rattle.msr_input.specs.Input.{rows_of_records}
use Rattle.msr_input.specs.Records.{left_with}
use Rattle.msr_input.specs.Rows.{RowReading, HasReadRows, row_settings}
use Rattle.msr_input.specs.declared.settings.Settings.{Settings}
use Rattle.msr_input.specs.declared.row_reader.NextRow.{NextRow}
use Rattle.msr_compare.specs.declared.tally.RowTally.{RowTally}
use Rattle.msr_compare.specs.Moves.{IsGreatestMove}
use Rattle.msr_compare.specs.Seen.{AllSeen, Sight, first_following, nothing_seen}
use Rattle.msr_compare.specs.Differences.{samples_in}
use Rattle.msr_compare.specs.Symbols.{Symbol, symbols_of, row_symbols}
use Rattle.msr_compare.specs.Tallies.{TalliesRow}

-- what a side shows: its reader of rows, what was counted of them, the symbols of the row at hand that were not yet
-- compared, and whether the input was read to its end
pub record Standing : Type 0 where
  pub reading : RowReading
  pub tally : RowTally
  pub ahead : List Symbol
  pub ended : Bool

-- the segment that was begun last is that of the tally
abbrev pub IsOpenIn : Option Segment → RowTally → Type 0
IsOpenIn current tally =
    (segment : Segment) → current ≡ Some segment
    → (tally.start ≡ segment.start) × (tally.count ≡ length segment.samples)

-- the tally counts these records and their segments
pub record IsTallied (records : List Record) (tolerance : ℕ) (segments : List Segment) (current : Option Segment)
    (tally : RowTally) : Type 0 where
  pub segments_are : tally.segments ≡ length segments
  pub samples_are : tally.samples ≡ samples_in segments
  pub few_segments : tally.segments ≤ length records
  pub few_samples : tally.samples ≤ 65_535 * length records
  pub few_count : tally.count < 2 ^ 64
  pub at_open : IsOpenIn current tally
  pub greatest : IsGreatestMove tolerance (rows_of_records records) tally.moved

-- the reader has come to the end of the input
pub record IsAtEnd (reading : RowReading) : Type 0 where
  pub none_wait : reading.position.waiting ≡ []
  pub ended : reading.position.ended ≡ true

-- From the one state of the source to the other some records came, none refused, and were seen; their segments have
-- these symbols, and then those that are ahead.
pub record HasTaken (seen : Sight) (settings : Settings) (start now : Device) (side : Standing) (done : List Symbol) : Type 0 where
  pub records : List Record
  pub answers : List Step
  pub read : HasReadRows start now side.reading records answers
  pub is_seen : seen side.reading.following records
  pub settings_are : row_settings side.reading ≡ settings
  pub bounded : settings.tolerance ≤ 1_000_000
  pub joining : Joining
  pub given : List Segment
  pub joined : HasJoined joining (rows_of_records records) given
  pub stands : side.reading.following ≡ following_of joining
  pub symbols : symbols_of (given ++ option_to_list joining.current) ≡ done ++ side.ahead
  pub tallied : IsTallied records settings.tolerance (given ++ option_to_list joining.current) joining.current
      side.tally
  pub end : side.ended ≡ true → IsAtEnd side.reading

-- The same, and something is ahead, or the input has ended.
pub record IsFetched (seen : Sight) (settings : Settings) (start now : Device) (side : Standing) (done : List Symbol)
    : Type 0 where
  pub taken : HasTaken seen settings start now side done
  pub some : side.ahead ≡ [] → side.ended ≡ true

-- Some records came from a source that could count calls.
pub record HasSource (now : Device) (side : Standing) : Type 0 where
  pub settings : Settings
  pub start : Device
  pub done : List Symbol
  pub taken : HasTaken nothing_seen settings start now side done
  pub can : CanCountCall start

-- a side before the first record
pub record IsNew (settings : Settings) (start : Device) (side : Standing) : Type 0 where
  pub taken : HasTaken nothing_seen settings start start side []
  pub none : taken.records ≡ []
  pub following : side.reading.following ≡ first_following settings

-- The input was read to its end, is readable, and was seen. The symbols of its segments are these, and more only if it
-- had not been read to its end before.
pub record IsDrained (seen : Sight) (settings : Settings) (start now : Device) (ended : Bool) (symbols : List Symbol)
    : Type 0 where
  pub input : List ℕ
  pub left : HasLeft start input
  pub all : AllSeen seen settings input
  pub more : List Symbol
  pub symbols_are : symbols_of all.segments ≡ symbols ++ more
  pub whole : ended ≡ true → more ≡ []
  pub steady : IsSteady start now

-- the row of a record is counted, and is ahead
pub record TakesRow (next : NextRow) (old new : Standing) : Type 0 where
  pub tallies : TalliesRow next.step old.tally next.row new.tally
  pub ahead : new.ahead ≡ row_symbols next.step next.row
  pub reading : new.reading ≡ old.reading
  pub ended : new.ended ≡ old.ended

abbrev pub TakesNext : Option NextRow → Standing → Standing → Type 0
TakesNext None old new = new ≡ old
TakesNext (Some next) old new = TakesRow next old new

-- how much is left to compare at most: a record has a byte at least, and 65,535 samples at most
abbrev pub left_to_read : Bool → ℕ → ℕ
left_to_read true left = 0
left_to_read false left = 65_536 * left

abbrev pub weight : Device → Standing → ℕ
weight source side =
    left_to_read side.ended (left_with source side.reading.position.waiting) + length side.ahead
