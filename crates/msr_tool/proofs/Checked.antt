-- What is answered when checking stops.
use Rattle.std.proofs.Common.{ℕ, List, Result, Ok, Err}
use Rattle.msr_devices.specs.Device.{Device, HasLeft}
use Rattle.msr_devices.proofs.Chaining.{left_of}
use Rattle.msr_report.specs.declared.report.Report.{Report}
use Rattle.msr_report_reader.specs.Reading.{ReadsReport}
use Rattle.msr_report_reader.specs.declared.fault.ReportFault.{ReportFault}
use Rattle.msr_report_reader.specs.declared.fault.ReportFault.TheVariants as report
use Rattle.msr_input.specs.declared.fault.ReadFault.{ReadFault}
use Rattle.msr_input.specs.declared.fault.ReadFault.TheVariants as read
use Rattle.msr_verdict.specs.Packed.{VerifyAnswers}
use Rattle.msr_verdict.specs.declared.verdict.Verdict.{Verdict}
use Rattle.msr_tool.specs.Checking.{CheckAnswers}
use Rattle.msr_tool.specs.Fault.{fault_of_reading, fault_of_report}
use Rattle.msr_tool.specs.declared.fault.ToolFault.{ToolFault}

-- what is answered, for some packed records and some text
abbrev pub IsCheckAnswered : Device → Device → Result Verdict ToolFault → Type 0
IsCheckAnswered packed0 report0 result = (input : List ℕ) × (text : List ℕ) × HasLeft packed0 input
    × HasLeft report0 text × CheckAnswers input text result

-- the report is not read
pub report_fails : (packed0 report0 : Device) (text : List ℕ) (why : ReportFault) → HasLeft report0 text
    → ReadsReport text (Err why) → IsCheckAnswered packed0 report0 (Err (fault_of_report why))
report_fails packed0 report0 text (report.Line line) left reads = let p = left_of packed0 in
    (p.0, text, p.1, left, reads)
report_fails packed0 report0 text report.Read left reads = let p = left_of packed0 in (p.0, text, p.1, left, tt)
report_fails packed0 report0 text report.Memory left reads = let p = left_of packed0 in (p.0, text, p.1, left, tt)

-- the packed records are not
pub verify_fails : (packed0 report0 : Device) (input text : List ℕ) (found : Report) (why : ReadFault)
    → HasLeft packed0 input → HasLeft report0 text → ReadsReport text (Ok found) → VerifyAnswers found input (Err why)
    → IsCheckAnswered packed0 report0 (Err (fault_of_reading why))
verify_fails packed0 report0 input text found (read.Input other) left left_text reads answers =
    (input, text, left, left_text, record { report = found; read = reads; answers = answers })
verify_fails packed0 report0 input text found read.Read left left_text reads answers =
    (input, text, left, left_text, tt)
verify_fails packed0 report0 input text found read.Memory left left_text reads answers =
    (input, text, left, left_text, tt)
