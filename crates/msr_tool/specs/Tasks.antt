-- What the tasks answer that also write a text: a repack with the text of its report, a check with the line of its
-- verdict.
use Rattle.std.specs.Prelude.{◌≡◌, ◌⊎◌, ◌↔◌, ℕ, List, [], ◌++◌, codes, Result, Ok, Err, IsErrOf}
use Rattle.msr_devices.specs.Device.{Device, CountsFew, HasFailed, HasLeft, Takes}
use Rattle.msr_report.specs.Text.{IsReportText}
use Rattle.msr_report.specs.declared.report.Report.{Report}
use Rattle.msr_report_reader.specs.Fault.{IsFaultLine}
use Rattle.msr_input.specs.declared.fault.Fault.{Fault}
use Rattle.msr_input.specs.declared.fault.ReadFault.TheVariants as read
use Rattle.msr_verdict.specs.Texts.{verdict_text}
use Rattle.msr_verdict.specs.declared.verdict.Verdict.{Verdict}
use Rattle.msr_tool.specs.Answer.{IsRepacked, IsRefusedAt, IsStopped}
use Rattle.msr_tool.specs.Checking.{IsChecked}
use Rattle.msr_options.specs.Choice.{Choice}
use Rattle.msr_tool.specs.declared.fault.ToolFault.{ToolFault}
use Rattle.msr_tool.specs.declared.fault.ToolFault.TheVariants as fault

-- The input was repacked with this report, and what was told is its text.
pub record IsReported (choice : Choice) (input written told : List ℕ) (report : Report) : Type 0 where
  pub repacked : IsRepacked choice input written report
  pub text : IsReportText report told

-- The input was repacked, and what was told is a prefix of the text of its report.
pub record IsReportedInPart (choice : Choice) (input written told : List ℕ) : Type 0 where
  pub report : Report
  pub rest : List ℕ
  pub reported : IsReported choice input written (told ++ rest) report

-- Repacking stopped, and nothing was told.
pub record IsUnreported (choice : Choice) (input written told : List ℕ) : Type 0 where
  pub stopped : IsStopped choice input written
  pub untold : told ≡ []

-- what an answer says of the input, of the records that were written, and of what was told
abbrev pub ReportAnswers : Choice → (input written told : List ℕ) → Result Report ToolFault → Type 0
ReportAnswers choice input written told (Ok report) = IsReported choice input written told report
ReportAnswers choice input written told (Err (fault.Input found)) = IsRefusedAt choice input written found × (told ≡ [])
ReportAnswers choice input written told (Err (fault.Report line)) = ⊥
ReportAnswers choice input written told (Err fault.Read) = IsUnreported choice input written told
ReportAnswers choice input written told (Err fault.Write) =
    IsUnreported choice input written told ⊎ IsReportedInPart choice input written told
ReportAnswers choice input written told (Err fault.Memory) =
    IsUnreported choice input written told ⊎ IsReportedInPart choice input written told

-- What a repack did with its devices, the source, the sink of the records and that of the text, and what it answers.
pub record Reports (choice : Choice) (source : Device) (records0 records text0 text : Device)
    (result : Result Report ToolFault) : Type 0 where
  pub input : List ℕ
  pub written : List ℕ
  pub told : List ℕ
  pub left : HasLeft source input
  pub wrote : Takes records0 records written
  pub told_all : Takes text0 text told
  pub answers : ReportAnswers choice input written told result

-- How such a repack answers for its devices: a failure of one is answered as such, and nothing else is. If the input or
-- its source is at fault, or the records are, no call was made for the text.
pub record TellsFailures (untold : Type 0) (source0 source records0 records text0 text : Device)
    (result : Result Report ToolFault) : Type 0 where
  pub read : IsErrOf result fault.Read ↔ HasFailed source0 source
  pub write : IsErrOf result fault.Write ↔ (HasFailed records0 records ⊎ HasFailed text0 text)
  pub untold_at_fault : (found : Fault) → result ≡ Err (fault.Input found) → untold
  pub untold_at_read : HasFailed source0 source → untold
  pub untold_at_write : HasFailed records0 records → untold
  pub few_source : CountsFew source0 source
  pub few_records : CountsFew records0 records
  pub few_text : CountsFew text0 text

-- the line that a check prints
abbrev pub verdict_line : Verdict → List ℕ
verdict_line verdict = verdict_text verdict ++ codes "\n"

-- The records were checked, and what was told is a prefix of the line of the verdict.
pub record IsToldInPart (input text told : List ℕ) : Type 0 where
  pub verdict : Verdict
  pub rest : List ℕ
  pub checked : IsChecked input text (Ok verdict)
  pub line : verdict_line verdict ≡ told ++ rest

-- what an answer says of the packed records, of the report's text, and of what was told
abbrev pub VerdictAnswers : (input text told : List ℕ) → Result Verdict ToolFault → Type 0
VerdictAnswers input text told (Ok verdict) = IsChecked input text (Ok verdict) × (told ≡ verdict_line verdict)
VerdictAnswers input text told (Err (fault.Input found)) = IsChecked input text (Err (read.Input found)) × (told ≡ [])
VerdictAnswers input text told (Err (fault.Report line)) = IsFaultLine text line × (told ≡ [])
VerdictAnswers input text told (Err fault.Read) = told ≡ []
VerdictAnswers input text told (Err fault.Write) = IsToldInPart input text told
VerdictAnswers input text told (Err fault.Memory) = told ≡ []

-- What a check did with its devices, the packed records, the report and the sink of the verdict, and what it answers.
pub record TellsVerdict (packed report : Device) (out0 out : Device) (result : Result Verdict ToolFault) : Type 0 where
  pub input : List ℕ
  pub text : List ℕ
  pub told : List ℕ
  pub left : HasLeft packed input
  pub left_text : HasLeft report text
  pub told_all : Takes out0 out told
  pub answers : VerdictAnswers input text told result
