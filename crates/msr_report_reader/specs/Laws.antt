-- What holds of reports and their texts: a text is that of one report, and the text of a report is read as it.
use Rattle.std.specs.Prelude.{◌≡◌, ℕ, List, Result, Ok, Err}
use Rattle.msr_report.specs.Text.{IsReportText}
use Rattle.msr_report.specs.declared.report.Report.{Report}
use Rattle.msr_report_reader.specs.Fault.{IsFaultLine}
use Rattle.msr_report_reader.specs.Content.{IsContent, content_of}
use Rattle.msr_report_reader.specs.Reading.{IsReadFrom, ReadsReport}
use Rattle.msr_report_reader.specs.declared.fault.ReportFault.{ReportFault}
use Rattle.msr_report_reader.specs.declared.fault.ReportFault.TheVariants.{Line, Read, Memory}

-- two reports with the same text say the same
abbrev pub OneReport : Type 0
OneReport =
    (report other : Report) (text : List ℕ)
    → IsContent (content_of report) → IsContent (content_of other)
    → IsReportText report text → IsReportText other text
    → content_of report ≡ content_of other

-- the text of a report has no line at fault
abbrev pub NoLineAtFault : Type 0
NoLineAtFault = (report : Report) (text : List ℕ) (line : ℕ) → IsReadFrom report text → IsFaultLine text line → ⊥

-- a report that says the same, unless the source failed or memory was refused
abbrev pub GivesBack : Report → Result Report ReportFault → Type 0
GivesBack report (Ok other) = content_of other ≡ content_of report
GivesBack report (Err (Line line)) = ⊥
GivesBack report (Err Read) = Unit {0}
GivesBack report (Err Memory) = Unit {0}

-- the text of a report is read as that report
abbrev pub TextIsReadBack : Type 0
TextIsReadBack =
    (report : Report) (text : List ℕ) (result : Result Report ReportFault)
    → IsReadFrom report text → ReadsReport text result → GivesBack report result
