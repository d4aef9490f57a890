-- What checking packed records with their report answers.
use Rattle.std.specs.Prelude.{ℕ, List, Result, Ok, Err}
use Rattle.msr_report.specs.declared.report.Report.{Report}
use Rattle.msr_devices.specs.Device.{Device, HasLeft}
use Rattle.msr_report_reader.specs.Fault.{IsFaultLine}
use Rattle.msr_report_reader.specs.Reading.{IsReadFrom}
use Rattle.msr_input.specs.declared.fault.ReadFault.{ReadFault}
use Rattle.msr_input.specs.declared.fault.ReadFault.TheVariants as read
use Rattle.msr_verdict.specs.Packed.{VerifyAnswers}
use Rattle.msr_verdict.specs.declared.verdict.Verdict.{Verdict}
use Rattle.msr_tool.specs.declared.fault.ToolFault.{ToolFault}
use Rattle.msr_tool.specs.declared.fault.ToolFault.TheVariants as fault

-- The text is that of a report, each of whose fields is in the range of its type, and by this report the input has
-- that answer: the report shows that each segment stands in the fewest records; or the input is readable and the
-- report does not show it; or the input has a first fault.
pub record IsChecked (input text : List ℕ) (answer : Result Verdict ReadFault) : Type 0 where
  pub report : Report
  pub read : IsReadFrom report text
  pub answers : VerifyAnswers report input answer

-- what an answer says of the packed records and of the text
abbrev pub CheckAnswers : List ℕ → List ℕ → Result Verdict ToolFault → Type 0
CheckAnswers input text (Ok verdict) = IsChecked input text (Ok verdict)
CheckAnswers input text (Err (fault.Input found)) = IsChecked input text (Err (read.Input found))
CheckAnswers input text (Err (fault.Report line)) = IsFaultLine text line
CheckAnswers input text (Err fault.Read) = Unit {0}
CheckAnswers input text (Err fault.Write) = ⊥
CheckAnswers input text (Err fault.Memory) = Unit {0}

-- the source's bytes are the text of a report
pub record GivesReport (source : Device) : Type 0 where
  pub text : List ℕ
  pub left : HasLeft source text
  pub report : Report
  pub read : IsReadFrom report text
