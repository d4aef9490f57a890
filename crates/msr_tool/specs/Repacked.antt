-- What was repacked has the segments of the input.
use Rattle.std.specs.Prelude.{ℕ, Bool, List, All}
use Rattle.msr_rows.specs.declared.row.Record.{Record}
use Rattle.msr_segments.specs.declared.joiner.Segment.{Segment}
use Rattle.msr_report.specs.declared.report.Report.{Report}
use Rattle.msr_input.specs.Input.{IsReadable}
use Rattle.msr_options.specs.Choice.{Choice, as_strict}
use Rattle.msr_tool.specs.Settings.{settings_of}
use Rattle.msr_tool.specs.Answer.{IsRepacked}
use Rattle.msr_tool.specs.Shown.{EndsBeforeTheLast}

-- What was repacked is readable, strictly or not, if no segment of the input ends in the last microsecond, and its
-- segments are those of the input.
abbrev pub RepackedHasSegments : Type 0
RepackedHasSegments =
    (choice : Choice) (strict : Bool) (input written : List ℕ) (report : Report) (records : List Record)
    (segments : List Segment)
    → IsRepacked choice input written report
    → IsReadable (settings_of choice) input records segments
    → All EndsBeforeTheLast segments
    → (found : List Record) × IsReadable (settings_of (as_strict strict choice)) written found segments

-- Without that condition it need not be readable; but if it is, its segments are those of the input.
abbrev pub ReadableHasSegments : Type 0
ReadableHasSegments =
    (choice : Choice) (strict : Bool) (input written : List ℕ) (report : Report) (found : List Record)
    (segments : List Segment)
    → IsRepacked choice input written report
    → IsReadable (settings_of (as_strict strict choice)) written found segments
    → (records : List Record) × IsReadable (settings_of choice) input records segments
