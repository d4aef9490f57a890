-- What stands in the sink of a feed whenever it reads.
use Rattle.std.specs.Prelude.{◌≡◌, ℕ, ◌+◌, List, ◌++◌, length}
use Rattle.msr_rows.specs.declared.row.Record.{Record}
use Rattle.msr_devices.specs.Device.{Device, HasLeft, Takes}
use Rattle.msr_segments.specs.Segments.{AreSegments}
use Rattle.msr_segments.specs.declared.joiner.Segment.{Segment}
use Rattle.msr_input.specs.Input.{AreRead, bytes_of_records, rows_of_records}
use Rattle.msr_input.specs.Reading.{HoldsRecord}
use Rattle.msr_record.specs.Decided.{IsDecidedOutput}
use Rattle.msr_options.specs.Choice.{Choice, form_chosen}
use Rattle.msr_tool.specs.Settings.{settings_of}

-- These records came from the source, and after them no whole one. What their rows give went into the sink, but for
-- the last samples of the segment that goes on.
pub record HasKeptUp (choice : Choice) (source0 source sink0 sink : Device) : Type 0 where
  pub input : List ℕ
  pub records : List Record
  pub waiting : List ℕ
  pub rest : List ℕ
  pub segments : List Segment
  pub written : List ℕ
  pub left : HasLeft source0 input
  pub are_read : AreRead (settings_of choice) input records (waiting ++ rest)
  pub came : source.moved ≡ source0.moved + (bytes_of_records records + length waiting)
  pub none_whole : HoldsRecord waiting → ⊥
  pub are_segments : AreSegments choice.tolerance (rows_of_records records) segments
  pub takes : Takes sink0 sink written
  pub went : sink.moved ≡ sink0.moved + length written
  pub decided : IsDecidedOutput (form_chosen choice) segments written
