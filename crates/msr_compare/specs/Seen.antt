-- What is seen of the records of an input while it is compared.
use Rattle.std.specs.Prelude.{◌≡◌, ℕ, List, None, Result, Ok, Err}
use Rattle.msr_rows.specs.declared.row.Record.{Record}
use Rattle.msr_segments.specs.Spans.{Following}
use Rattle.msr_segments.specs.declared.joiner.Segment.{Segment}
use Rattle.msr_input.specs.Input.{IsReadable}
use Rattle.msr_input.specs.Rows.{StepsTo, row_told}
use Rattle.msr_input.specs.declared.settings.Settings.{Settings}
use Rattle.msr_input.specs.declared.row_reader.NextRecord.{NextRecord}
use Rattle.msr_input.specs.declared.fault.ReadFault.TheVariants as fault
use Rattle.msr_compare.specs.declared.comparison.Comparison.{Comparison}
use Rattle.msr_compare.specs.declared.fault.CompareFault.{CompareFault}
use Rattle.msr_compare.specs.declared.fault.CompareFault.TheVariants.{Other}

-- what is known once these records came, whose rows left a follower so
abbrev pub Sight : Type 1
Sight = Following → List Record → Type 0

-- nothing is known
abbrev pub nothing_seen : Sight
nothing_seen following records = Unit {0}

-- before the first record
abbrev pub first_following : Settings → Following
first_following settings = record { tolerance = settings.tolerance; current = None }

-- This is what is told of the record: its length and its row, if it has one, which takes a follower from the one state to
-- the other.
pub record IsToldOf (old new : Following) (next : NextRecord) (found : Record) : Type 0 where
  pub length_is : next.length ≡ found.length
  pub row_is : row_told next.row ≡ found.row
  pub step : StepsTo old next.row new

-- The input is readable, and all of its records were seen.
pub record AllSeen (seen : Sight) (settings : Settings) (input : List ℕ) : Type 0 where
  pub records : List Record
  pub segments : List Segment
  pub readable : IsReadable settings input records segments
  pub following : Following
  pub tolerance_is : following.tolerance ≡ settings.tolerance
  pub is_seen : seen following records

-- All records of the first input were seen if it is not at fault, and no source and no memory failed.
abbrev pub SeenIfRead : Sight → Settings → List ℕ → Result Comparison CompareFault → Type 0
SeenIfRead seen settings input (Ok comparison) = AllSeen seen settings input
SeenIfRead seen settings input (Err (Other (fault.Input found))) = AllSeen seen settings input
SeenIfRead seen settings input (Err _) = Unit {0}
