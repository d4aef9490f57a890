-- What was repacked is readable, and its own report shows that it stands in the fewest records.
use Rattle.std.specs.Prelude.{◌≡◌, ◌≢◌, ℕ, ◌-◌, ℤ, pos, ◌+ℤ◌, List, length, All, Result, Ok, Err}
use Rattle.msr_time.specs.Instant.{IsInstant}
use Rattle.msr_time.specs.SampleRate.{IsRoundedNominal}
use Rattle.msr_rows.specs.declared.row.Record.{Record}
use Rattle.msr_segments.specs.declared.joiner.Segment.{Segment}
use Rattle.msr_report.specs.Text.{IsReportText}
use Rattle.msr_report.specs.declared.report.Report.{Report}
use Rattle.msr_input.specs.Input.{IsReadable}
use Rattle.msr_verdict.specs.Packed.{ShowsLeast}
use Rattle.msr_verdict.specs.declared.verdict.Verdict.{Verdict}
use Rattle.msr_verdict.specs.declared.verdict.Verdict.TheVariants.{Least}
use Rattle.msr_options.specs.Choice.{Choice}
use Rattle.msr_tool.specs.Settings.{settings_of}
use Rattle.msr_tool.specs.Answer.{IsRepacked}
use Rattle.msr_tool.specs.Checking.{CheckAnswers}
use Rattle.msr_tool.specs.declared.fault.ToolFault.{ToolFault}
use Rattle.msr_tool.specs.declared.fault.ToolFault.TheVariants.{Read, Memory}

-- The rounded instant of the segment's last sample, counted from its start, is not the last microsecond of the
-- supported years: the one after it is of them too.
pub record EndsBeforeTheLast (segment : Segment) : Type 0 where
  pub last : ℤ
  pub nominal : IsRoundedNominal segment.key.rate segment.start (length segment.samples - 1) last
  pub before : IsInstant (last +ℤ pos 1)

-- What was repacked is readable if no segment of the input ends in the last microsecond, and the report shows
-- that each of its segments stands in the fewest records. A record begins at the rounded instant of its first
-- sample, so its last sample, counted from there, may be rounded to one microsecond more than when it is counted
-- from the segment's start.
abbrev pub RepackedIsShown : Type 0
RepackedIsShown =
    (choice : Choice) (input written : List ℕ) (report : Report) (records : List Record) (segments : List Segment)
    → IsRepacked choice input written report
    → IsReadable (settings_of choice) input records segments
    → All EndsBeforeTheLast segments
    → ShowsLeast report written

-- What was repacked, checked with the text of its own report, stands in the fewest records by every answer but that a
-- source failed or that memory was refused.
abbrev pub RepackedIsLeast : Type 0
RepackedIsLeast =
    (choice : Choice) (input written text : List ℕ) (report : Report) (records : List Record)
    (segments : List Segment) (answer : Result Verdict ToolFault)
    → IsRepacked choice input written report
    → IsReadable (settings_of choice) input records segments
    → All EndsBeforeTheLast segments
    → IsReportText report text
    → CheckAnswers written text answer
    → answer ≢ Err Read → answer ≢ Err Memory
    → answer ≡ Ok Least
