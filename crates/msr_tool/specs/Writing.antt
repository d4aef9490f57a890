-- What writing the rows as segments with their lines does.
use Rattle.std.specs.Prelude.{◌≡◌, ℕ, ◌+◌, ◌<◌, ◌≤◌, ◌^◌, false, ℤ, List, ◌++◌, length, map, All, Option, None, Some, IfSome}
use Rattle.std.specs.Option.{option_to_list}
use Rattle.msr_base.specs.declared.forms.Form.{Form}
use Rattle.msr_devices.specs.Device.{Device, HasFailed, IsSteady}
use Rattle.msr_rows.specs.declared.row.Row.{Row}
use Rattle.msr_segments.specs.Spans.{SpanIsInTime, span_of}
use Rattle.msr_segments.specs.Segments.{row_segment}
use Rattle.msr_segments.specs.declared.follow.Step.{Step}
use Rattle.msr_segments.specs.declared.follow.Step.TheVariants.{Begins, Joins}
use Rattle.msr_segments.specs.declared.joiner.Segment.{Segment}
use Rattle.msr_input.specs.Reading.{IsWritable}
use Rattle.msr_input.specs.declared.row_reader.NextRow.{NextRow}
use Rattle.msr_report.specs.declared.report.SegmentLine.{SegmentLine}
use Rattle.msr_report_reader.specs.Content.{IsContentLine, content_line}
use Rattle.msr_record.specs.Opened.{Opened, CanGoOn, HasBegun, count_of, longer_by}
use Rattle.msr_record.specs.Output.{Packed, segment_of_packed}
use Rattle.msr_record.specs.Writing.{Writing, HasWritten, HasWrittenAll, HasWrittenPrefix}
use Rattle.msr_tool.specs.Answer.{AreLinesOf}
use Rattle.msr_tool.specs.declared.fault.ToolFault.{ToolFault}
use Rattle.msr_tool.specs.declared.fault.ToolFault.TheVariants.{Input, Report, Read, Write, Memory}

-- what a writer with the lines so far shows, and the segment that was begun last and has not ended
pub record Lined : Type 0 where
  pub writing : Writing
  pub lines : List SegmentLine
  pub last : Option Opened

-- the segment that a row ends, and the one that has not ended after it
abbrev pub ended_by : Step → Option Segment → Option Segment
ended_by Begins current = current
ended_by Joins current = None

abbrev pub longer_current : Option Segment → List ℤ → Option Segment
longer_current None more = None
longer_current (Some segment) more = Some (longer_by segment more)

abbrev pub current_after : Step → Option Segment → Row → Option Segment
current_after Begins current row = Some (row_segment row)
current_after Joins current row = longer_current current row.samples

-- the segment that a record ends, the one that has not ended after it, and both: it may have no row
abbrev pub ended_with : Option NextRow → Option Segment → Option Segment
ended_with None current = None
ended_with (Some next) current = ended_by next.step current

abbrev pub current_with : Option NextRow → Option Segment → Option Segment
current_with None current = current
current_with (Some next) current = current_after next.step current next.row

abbrev pub all_with : Option NextRow → Option Segment → List Segment
all_with next current = option_to_list (ended_with next current) ++ option_to_list (current_with next current)

-- The records of these segments were written, and the first ones of the segment that has not ended, if there is one.
abbrev pub StandsWritten : Device → Device → Writing → List Packed → Option Segment → Option Opened → Type 0
StandsWritten start now writing packed None None = (rows : List Row) × HasWritten start now writing packed rows
StandsWritten start now writing packed None (Some opened) = ⊥
StandsWritten start now writing packed (Some segment) None = ⊥
StandsWritten start now writing packed (Some segment) (Some opened) = HasBegun start now writing packed segment opened

-- From the one state of the sink to the other a prefix of the output of these segments and of the one that has not
-- ended was written; the rest waits. Each that has ended has its line, whose fields are in the ranges of their types.
pub record HasLined (start now : Device) (lined : Lined) (packed : List Packed)
    (current : Option Segment) : Type 0 where
  pub written : StandsWritten start now lined.writing packed current lined.last
  pub are_lines : AreLinesOf packed lined.lines
  pub contents : All IsContentLine (map content_line lined.lines)

-- these segments ended after the others, each with its line, and this one has not ended
pub record LinesMore (start now : Device) (lined : Lined) (packed : List Packed) (more : List Segment)
    (current : Option Segment) : Type 0 where
  pub all : List Packed
  pub same : map segment_of_packed all ≡ map segment_of_packed packed ++ more
  pub after : HasLined start now lined all current

-- all of the output of these segments was written, and each has its line
pub record LinesAll (form : Form) (start now : Device) (segments : List Segment)
    (lines : List SegmentLine) : Type 0 where
  pub packed : List Packed
  pub rows : List Row
  pub writing : Writing
  pub same : map segment_of_packed packed ≡ segments
  pub same_form : writing.form ≡ form
  pub written : HasWrittenAll start now writing packed rows
  pub are_lines : AreLinesOf packed lines
  pub contents : All IsContentLine (map content_line lines)

-- a segment that has not ended takes samples, in records of that form
pub record GoesOn (form : Form) (opened : Opened) : Type 0 where
  pub can : CanGoOn false opened
  pub same_form : opened.form ≡ form

-- with `more` further samples its times are of the supported years
pub record CanGrow (more : ℕ) (opened : Opened) : Type 0 where
  pub number : count_of opened + more < 2 ^ 64
  pub in_time : SpanIsInTime (span_of opened.key opened.start (count_of opened + more))

-- The row can be taken: with its samples, if it joins, the segment's times are of the supported years.
pub record CanTakeRow (last : Option Opened) (next : NextRow) : Type 0 where
  pub joins : next.step ≡ Joins → IfSome last (CanGrow (length next.row.samples))
  pub writable : IsWritable (row_segment next.row)
  pub few : length next.row.samples ≤ 65_535

-- The sink failed, and the first holds; or memory was refused, the sink did not fail, and the second holds.
abbrev pub StopsSink : Type 0 → Type 0 → Device → Device → ToolFault → Type 0
StopsSink failed refused start now (Input fault) = ⊥
StopsSink failed refused start now (Report line) = ⊥
StopsSink failed refused start now Read = ⊥
StopsSink failed refused start now Write = failed × HasFailed start now
StopsSink failed refused start now Memory = refused × IsSteady start now

-- a prefix of the output of some first ones of these segments was written
abbrev pub StopsLining : Form → Device → Device → List Segment → ToolFault → Type 0
StopsLining form start now segments fault =
    StopsSink (HasWrittenPrefix form start now segments) (HasWrittenPrefix form start now segments) start now fault
