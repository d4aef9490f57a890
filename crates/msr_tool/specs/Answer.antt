-- What repacking answers and leaves in the sink.
use Rattle.std.specs.Prelude.{◌≡◌, ℕ, List, [], ◌∷◌, map, Result, Ok, Err}
use Rattle.msr_rows.specs.declared.row.Row.{Row}
use Rattle.msr_rows.specs.declared.row.Record.{Record}
use Rattle.msr_segments.specs.Segments.{AreSegments}
use Rattle.msr_segments.specs.declared.joiner.Segment.{Segment}
use Rattle.msr_report.specs.Proper.{IsProper}
use Rattle.msr_report.specs.declared.report.SegmentLine.{SegmentLine}
use Rattle.msr_report.specs.declared.report.Report.{Report}
use Rattle.msr_report_reader.specs.Content.{IsContent, content_of}
use Rattle.msr_input.specs.declared.fault.Fault.{Fault}
use Rattle.msr_input.specs.Input.{AreRead, IsReadable, IsFirstFault, rows_of_records, counts_of}
use Rattle.msr_record.specs.Writing.{IsLineOf}
use Rattle.msr_record.specs.Output.{Packed, IsOutput, IsPrefixOfOutput, segment_of_packed}
use Rattle.msr_options.specs.Choice.{Choice, form_chosen}
use Rattle.msr_tool.specs.Settings.{settings_of}
use Rattle.msr_tool.specs.declared.fault.ToolFault.{ToolFault}
use Rattle.msr_tool.specs.declared.fault.ToolFault.TheVariants as fault

-- each line is that of the packed segment at its place
abbrev pub AreLinesOf : List Packed → List SegmentLine → Type 0
AreLinesOf [] lines = lines ≡ []
AreLinesOf (packed ∷ others) [] = ⊥
AreLinesOf (packed ∷ others) (line ∷ lines) = IsLineOf packed line × AreLinesOf others lines

-- The report of an input: the choice, the counts of its records, and a line for each segment as it was packed.
pub record IsReportOf (choice : Choice) (records : List Record) (packed : List Packed) (report : Report) : Type 0 where
  pub record_length : report.length ≡ choice.record_length
  pub kinds : report.kinds ≡ choice.kinds
  pub tolerance : report.tolerance ≡ choice.tolerance
  pub counts : report.counts ≡ counts_of records
  pub lines : AreLinesOf packed report.segments.items
  pub proper : IsProper report
  pub is_content : IsContent (content_of report)

-- The input was repacked. It is readable; what was written is the output of its segments, each packed in the
-- fewest records of the chosen kinds with the separators that show it; the rows that were written have the same
-- segments; and the report is that of the input.
pub record IsRepacked (choice : Choice) (input written : List ℕ) (report : Report) : Type 0 where
  pub records : List Record
  pub packed : List Packed
  pub rows : List Row
  pub readable : IsReadable (settings_of choice) input records (map segment_of_packed packed)
  pub output : IsOutput (form_chosen choice) packed rows written
  pub same_segments : AreSegments choice.tolerance rows (map segment_of_packed packed)
  pub is_report : IsReportOf choice records packed report

-- The input has this first fault. What was written is a prefix of the output of the segments of the rows before it.
pub record IsRefusedAt (choice : Choice) (input written : List ℕ) (fault : Fault) : Type 0 where
  pub records : List Record
  pub segments : List Segment
  pub first : IsFirstFault (settings_of choice) input records fault
  pub are_segments : AreSegments choice.tolerance (rows_of_records records) segments
  pub prefix : IsPrefixOfOutput (form_chosen choice) segments written

-- Some first records of the input are read, none of them refused. What was written is a prefix of the output of the
-- segments of their rows.
pub record IsStopped (choice : Choice) (input written : List ℕ) : Type 0 where
  pub records : List Record
  pub rest : List ℕ
  pub segments : List Segment
  pub are_read : AreRead (settings_of choice) input records rest
  pub are_segments : AreSegments choice.tolerance (rows_of_records records) segments
  pub prefix : IsPrefixOfOutput (form_chosen choice) segments written

-- what an answer says of the input and of what was written
abbrev pub Answers : Choice → List ℕ → List ℕ → Result Report ToolFault → Type 0
Answers choice input written (Ok report) = IsRepacked choice input written report
Answers choice input written (Err (fault.Input found)) = IsRefusedAt choice input written found
Answers choice input written (Err (fault.Report line)) = ⊥
Answers choice input written (Err fault.Read) = IsStopped choice input written
Answers choice input written (Err fault.Write) = IsStopped choice input written
Answers choice input written (Err fault.Memory) = IsStopped choice input written
