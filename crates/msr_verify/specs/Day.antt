-- What the three files of a day show.
use Rattle.std.specs.Prelude.{ℕ, Bool, true, false, List, Option, None, Some, Result, Ok, Err}
use Rattle.msr_devices.specs.Device.{Device, HasLeft}
use Rattle.msr_report.specs.declared.report.Report.{Report}
use Rattle.msr_report_reader.specs.Reading.{IsReadFrom, ReadsReport}
use Rattle.msr_report_reader.specs.declared.fault.ReportFault.{ReportFault}
use Rattle.msr_report_reader.specs.declared.fault.ReportFault.TheVariants as report_stop
use Rattle.msr_input.specs.Input.{HasFirstFault}
use Rattle.msr_input.specs.declared.fault.Fault.{Fault}
use Rattle.msr_input.specs.declared.fault.ReadFault.{ReadFault}
use Rattle.msr_input.specs.declared.fault.ReadFault.TheVariants as stop
use Rattle.msr_verdict.specs.Packed.{ShowsLeast, DoesNotShow, settings_by}
use Rattle.msr_verdict.specs.declared.verdict.Verdict.{Verdict}
use Rattle.msr_verdict.specs.declared.verdict.Verdict.TheVariants as verdict
use Rattle.msr_compare.specs.Answers.{DifferFirst, HaveSameSegments}
use Rattle.msr_compare.specs.declared.comparison.Comparison.{Comparison}
use Rattle.msr_compare.specs.declared.comparison.Comparison.TheVariants as comparison
use Rattle.msr_compare.specs.declared.comparison.Difference.{Difference}
use Rattle.msr_compare.specs.declared.fault.CompareFault.{CompareFault}
use Rattle.msr_compare.specs.declared.fault.CompareFault.TheVariants.{One, Other}
use Rattle.msr_verify.specs.declared.judging.Finding.{Finding}
use Rattle.msr_verify.specs.declared.judging.Finding.TheVariants.{Verified, NotShown, Differs}
use Rattle.msr_verify.specs.declared.judging.VerifyFault.{VerifyFault}
use Rattle.msr_verify.specs.declared.judging.VerifyFault.TheVariants.{File, Records, ReportLine, ReportRead, ReportMemory}

-- where the report is at fault
abbrev pub verify_fault_of_report : ReportFault → VerifyFault
verify_fault_of_report (report_stop.Line line) = ReportLine line
verify_fault_of_report report_stop.Read = ReportRead
verify_fault_of_report report_stop.Memory = ReportMemory

-- what is found where the records, by their report, and beside them the day's own file have this answer
abbrev pub finding_of : Result (Option Comparison) CompareFault → Result Finding VerifyFault
finding_of (Ok (Some (comparison.Same told))) = Ok Verified
finding_of (Ok (Some (comparison.Differ difference))) = Ok Differs
finding_of (Ok None) = Ok NotShown
finding_of (Err (One fault)) = Err (Records fault)
finding_of (Err (Other fault)) = Err (File fault)

-- The text is that of a report, and by this report the records are the fewest.
pub record IsShownLeast (records text : List ℕ) : Type 0 where
  pub report : Report
  pub read : IsReadFrom report text
  pub least : ShowsLeast report records

-- The text is that of a report which shows that the records are the fewest, and the day's file has the same segments as
-- these records, both with the report's tolerance.
pub record IsVerified (file records text : List ℕ) : Type 0 where
  pub shown : IsShownLeast records text
  pub same : HaveSameSegments (settings_by shown.report) file records

-- The report shows it, and there is a first difference of the segments of these records and of the file.
pub record HasDifferentData (file records text : List ℕ) : Type 0 where
  pub shown : IsShownLeast records text
  pub difference : Difference
  pub differ : DifferFirst (settings_by shown.report) records file difference

-- The text is that of a report which does not show that the records are the fewest.
pub record IsUnshown (records text : List ℕ) : Type 0 where
  pub report : Report
  pub read : IsReadFrom report text
  pub unshown : DoesNotShow report records

-- The report shows it, and the day's file has this first fault.
pub record IsFileRefused (file records text : List ℕ) (found : Fault) : Type 0 where
  pub shown : IsShownLeast records text
  pub first : HasFirstFault (settings_by shown.report) file found

-- The text is that of a report, and the records have this first fault.
pub record IsRecordRefused (records text : List ℕ) (found : Fault) : Type 0 where
  pub report : Report
  pub read : IsReadFrom report text
  pub first : HasFirstFault (settings_by report) records found

-- What an answer says of the bytes of the day's file, of the records and of the text. A source that failed, and memory
-- that was refused, say nothing of them.
abbrev pub DayAnswers : (file records text : List ℕ) → Result Finding VerifyFault → Type 0
DayAnswers file records text (Ok Verified) = IsVerified file records text
DayAnswers file records text (Ok NotShown) = IsUnshown records text
DayAnswers file records text (Ok Differs) = HasDifferentData file records text
DayAnswers file records text (Err (File (stop.Input found))) = IsFileRefused file records text found
DayAnswers file records text (Err (File stop.Read)) = Unit {0}
DayAnswers file records text (Err (File stop.Memory)) = Unit {0}
DayAnswers file records text (Err (Records (stop.Input found))) = IsRecordRefused records text found
DayAnswers file records text (Err (Records stop.Read)) = Unit {0}
DayAnswers file records text (Err (Records stop.Memory)) = Unit {0}
DayAnswers file records text (Err (ReportLine line)) = ReadsReport text (Err (report_stop.Line line))
DayAnswers file records text (Err ReportRead) = Unit {0}
DayAnswers file records text (Err ReportMemory) = Unit {0}

-- what is found of the day's own file by the report
abbrev pub alone_of : Result Verdict ReadFault → Result Bool VerifyFault
alone_of (Ok verdict.Least) = Ok true
alone_of (Ok verdict.NotShown) = Ok false
alone_of (Err (stop.Input found)) = Ok false
alone_of (Err stop.Read) = Err (File stop.Read)
alone_of (Err stop.Memory) = Err (File stop.Memory)

-- the day's own file, or its report, could not be read to its end, or memory was refused
abbrev pub IsUnfinished : VerifyFault → Type 0
IsUnfinished (File stop.Read) = Unit {0}
IsUnfinished (File stop.Memory) = Unit {0}
IsUnfinished ReportRead = Unit {0}
IsUnfinished ReportMemory = Unit {0}
IsUnfinished fault = ⊥

-- whether the text is that of a report by which the day's own file is records, and the fewest
abbrev pub AloneAnswers : (file text : List ℕ) → Result Bool VerifyFault → Type 0
AloneAnswers file text (Ok true) = IsShownLeast file text
AloneAnswers file text (Ok false) = ¬ (IsShownLeast file text)
AloneAnswers file text (Err fault) = IsUnfinished fault

-- What that answers, for the bytes of its sources.
pub record VerifiesAlone (file report : Device) (result : Result Bool VerifyFault) : Type 0 where
  pub own : List ℕ
  pub text : List ℕ
  pub left_file : HasLeft file own
  pub left_report : HasLeft report text
  pub answers : AloneAnswers own text result

-- What verifying a day answers, for the bytes of its sources.
pub record VerifiesDay (file records report : Device) (result : Result Finding VerifyFault) : Type 0 where
  pub first : List ℕ
  pub second : List ℕ
  pub text : List ℕ
  pub left_file : HasLeft file first
  pub left_records : HasLeft records second
  pub left_report : HasLeft report text
  pub answers : DayAnswers first second text result
