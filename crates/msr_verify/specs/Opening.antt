-- How the files of a day are opened.
use Rattle.std.specs.Prelude.{◌≡◌, ◌<◌, ◌⊎◌, ℕ, Bool, true, false, List, None, Some, Result, Ok, Err, IfOk}
use Rattle.msr_devices.specs.Device.{Device}
use Rattle.msr_devices.specs.declared.fault.DeviceFault.{DeviceFault}
use Rattle.msr_options.specs.declared.names.Names.{Names}
use Rattle.msr_report_reader.specs.Reading.{ReadsReport}
use Rattle.msr_report_reader.specs.declared.fault.ReportFault.TheVariants as report_stop
use Rattle.msr_tree.specs.Calls.{AreOneFile, Opens}
use Rattle.msr_tree.specs.Listing.{is_there}
use Rattle.msr_tree.specs.Reads.{OnlyLooks}
use Rattle.msr_tree.specs.Steps.{Path, Step, failures, seen}
use Rattle.msr_verify.specs.Entries.{IsJudgementOfDay}
use Rattle.msr_verify.specs.Files.{DayPlaces, IsJudgementThere, JudgesDay, TellsSegments}
use Rattle.msr_verify.specs.declared.day.OpenAlone.{OpenAlone}
use Rattle.msr_verify.specs.declared.day.OpenDay.{OpenDay}
use Rattle.msr_verify.specs.declared.day.Places.{Places}
use Rattle.msr_verify.specs.declared.day.Unjudged.{Unjudged}
use Rattle.msr_verify.specs.declared.day.Unjudged.TheVariants as unjudged
use Rattle.msr_verify.specs.declared.judgement.Judgement.{Judgement}
use Rattle.msr_verify.specs.declared.judgement.Judgement.TheVariants.{Misplaced, Refused}
use Rattle.msr_verify.specs.declared.judging.VerifyFault.{VerifyFault}
use Rattle.msr_verify.specs.declared.judging.VerifyFault.TheVariants.{ReportLine, ReportMemory, ReportRead}
use Rattle.msr_verify.specs.declared.judgement.Refusal.{Refusal}
use Rattle.msr_verify.specs.declared.judgement.Refusal.TheVariants.{Day, ReportUnopened, SameFile}

abbrev pub places_at : Places → DayPlaces
places_at places = record { file = places.file.now; records = places.records.now; report = places.report.now }

-- whether something stands there, as far as the tree tells
pub record MayHave (path : Path) (result : Result Bool DeviceFault) (old new : List Step) : Type 0 where
  pub looks : OnlyLooks old new
  pub no : IfOk result (λ answer. answer ≡ false → is_there old path ≡ false)
  pub yes : IfOk result (λ answer. answer ≡ true → (is_there old path ≡ true) ⊎ (failures old < failures new))

-- why a day is not judged
abbrev pub IsUnjudged : DayPlaces → Unjudged → (old new : List Step) → Type 0
IsUnjudged places (unjudged.Refused why) old new = OnlyLooks old new × IsJudgementThere places (Refused why) old new
IsUnjudged places unjudged.Memory old new = OnlyLooks old new

-- the one refusal that there may be
abbrev pub RefusesAs : Refusal → Unjudged → Type 0
RefusesAs refusal (unjudged.Refused why) = why ≡ refusal
RefusesAs refusal unjudged.Memory = Unit {0}

-- a refusal of a day
abbrev pub RefusesDay : Unjudged → Type 0
RefusesDay (unjudged.Refused why) = IsJudgementOfDay (Refused why)
RefusesDay unjudged.Memory = Unit {0}

-- a file is opened, or a call failed
abbrev pub OpensFile : {R : Type 0} → Path → Refusal → (R → Device) → Result R Unjudged → (old new : List Step) → Type 0
OpensFile path refusal device (Ok reader) old new = (new ≡ old) × Opens path old (device reader)
OpensFile path refusal device (Err (unjudged.Refused why)) old new = OnlyLooks old new × (why ≡ refusal) × (failures old < failures new)
OpensFile path refusal device (Err unjudged.Memory) old new = new ≡ old

-- the records are not the day's own file
abbrev pub AreTwoFiles : (file records : Path) → Result (Unit {0}) Unjudged → (old new : List Step) → Type 0
AreTwoFiles file records (Ok x) old new = (new ≡ old) × (¬ (AreOneFile file records old))
AreTwoFiles file records (Err (unjudged.Refused why)) old new = OnlyLooks old new × (why ≡ SameFile) × (AreOneFile file records old ⊎ (failures old < failures new))
AreTwoFiles file records (Err unjudged.Memory) old new = new ≡ old

-- what is answered of a day without records
abbrev pub JudgesAlone : DayPlaces → Result Judgement DeviceFault → (old new : List Step) → Type 0
JudgesAlone places result old new = is_there old places.records ≡ false → JudgesDay places result old new

-- its own file and its report are opened, or a call failed
abbrev pub OpensAlone : {R : Type 0} → DayPlaces → (R → Device) → Result (OpenAlone R) Unjudged → (old new : List Step) → Type 0
OpensAlone places device (Ok day) old new = (new ≡ old) × Opens places.file old (device day.file) × Opens places.report old (device day.report)
OpensAlone places device (Err (unjudged.Refused why)) old new = OnlyLooks old new × (failures old < failures new)
OpensAlone places device (Err unjudged.Memory) old new = OnlyLooks old new

-- all files of a day are opened
abbrev pub OpensDay : {R : Type 0} → DayPlaces → (R → Device) → Result (OpenDay R) Unjudged → (old new : List Step) → Type 0
OpensDay places device (Ok day) old new = (new ≡ old) × (¬ (AreOneFile places.file places.records old)) × Opens places.file old (device day.file)
    × Opens places.records old (device day.records) × Opens places.report old (device day.report)
OpensDay places device (Err why) old new = IsUnjudged places why old new

-- why a report that is read again is not told
abbrev pub IsReportCut : Path → VerifyFault → List Step → Type 0
IsReportCut report (ReportLine line) past = (text : List ℕ) × (seen past report ≡ Some text) × ReadsReport text (Err (report_stop.Line line))
IsReportCut report ReportRead past = Unit {0}
IsReportCut report ReportMemory past = Unit {0}
IsReportCut report why past = ⊥

-- the judgement is told again exactly if the segments belong; it is not if the report is not read to its end
abbrev pub IsToldAgain : Names → Path → (judgement told : Judgement) → (old new : List Step) → Type 0
IsToldAgain names report judgement (Misplaced found) old new = TellsSegments names report (Some found) old
IsToldAgain names report judgement (Refused ReportUnopened) old new = failures old < failures new
IsToldAgain names report judgement (Refused (Day why)) old new = IsReportCut report why old
IsToldAgain names report judgement told old new = (told ≡ judgement) × TellsSegments names report None old

-- What is answered of a day with this judgement, by the report that is read again.
pub record JudgesSegments (names : Names) (report : Path) (judgement : Judgement) (result : Result Judgement DeviceFault) (old new : List Step) : Type 0 where
  pub looks : OnlyLooks old new
  pub says : IfOk result (λ told. IsToldAgain names report judgement told old new)
