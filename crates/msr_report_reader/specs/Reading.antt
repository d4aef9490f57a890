-- What reading a report from a source gives.
use Rattle.std.specs.Prelude.{ℕ, List, Result, Ok, Err}
use Rattle.msr_devices.specs.declared.fault.DeviceFault.{DeviceFault}
use Rattle.msr_devices.specs.declared.fault.DeviceFault.TheVariants as fill
use Rattle.msr_report.specs.Proper.{IsProper}
use Rattle.msr_report.specs.Text.{IsReportText}
use Rattle.msr_report.specs.declared.report.Report.{Report}
use Rattle.msr_report_reader.specs.Content.{IsContent, content_of}
use Rattle.msr_report_reader.specs.TextFault.{IsTextFault}
use Rattle.msr_report_reader.specs.declared.fault.ReportFault.{ReportFault}
use Rattle.msr_report_reader.specs.declared.fault.ReportFault.TheVariants.{Line, Read, Memory}

-- the fault of reading to which a fault of filling leads
abbrev pub report_fault_of_fill : DeviceFault → ReportFault
report_fault_of_fill fill.Failed = Read
report_fault_of_fill fill.Memory = Memory

-- The report is proper, each of its fields is in the range of its type, and the text is its.
pub record IsReadFrom (report : Report) (text : List ℕ) : Type 0 where
  pub proper : IsProper report
  pub is_content : IsContent (content_of report)
  pub is_text : IsReportText report text

-- The report whose text it is, or the line at fault in it. When the source failed, or memory was refused, the text
-- is judged no further.
abbrev pub ReadsReport : List ℕ → Result Report ReportFault → Type 0
ReadsReport text (Ok report) = IsReadFrom report text
ReadsReport text (Err (Line n)) = IsTextFault text (Line n)
ReadsReport text (Err Read) = Unit {0}
ReadsReport text (Err Memory) = Unit {0}
