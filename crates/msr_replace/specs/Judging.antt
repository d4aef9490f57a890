-- What the bytes under the names of a day show.
use Rattle.std.specs.Prelude.{◌<◌, ◌≡◌, ℕ, Bool, true, false, ◌&&◌, List, Option, None, Some, Result, Ok, Err, if◌then◌else◌, leb}
use Rattle.msr_devices.specs.Device.{Device, HasLeft, unused}
use Rattle.msr_tree.specs.Calls.{Opens}
use Rattle.msr_tree.specs.Steps.{Path, Step, failures, seen}
use Rattle.msr_tree.specs.declared.facts.Facts.{Facts}
use Rattle.msr_report.specs.declared.report.Report.{Report}
use Rattle.msr_verdict.specs.Packed.{ShowsLeast}
use Rattle.msr_verify.specs.Day.{IsShownLeast}
use Rattle.msr_input.specs.declared.fault.ReadFault.{ReadFault}
use Rattle.msr_verify.specs.declared.judging.Finding.{Finding}
use Rattle.msr_verify.specs.declared.judging.Finding.TheVariants as finding
use Rattle.msr_verify.specs.declared.judging.VerifyFault.{VerifyFault}
use Rattle.msr_replace.specs.Answers.{AreVerified, HaveLengths, IsFoundDay, IsRefusedFor, IsToldDay, IsVerifiedDay}
use Rattle.msr_replace.specs.Looks.{IsSeenDay, SortsAs}
use Rattle.msr_replace.specs.declared.looks.Looked.{Looked}
use Rattle.msr_replace.specs.declared.looks.Sorted.TheVariants.{Missing}
use Rattle.msr_exchange.specs.Names.{Names}
use Rattle.msr_replace.specs.Kinds.{LacksInt24}
use Rattle.msr_replace.specs.declared.answers.DayRefusal.{DayRefusal}
use Rattle.msr_replace.specs.declared.answers.DayAnswer.TheVariants.{Larger, NotShown, Differs, Refused}
use Rattle.msr_replace.specs.declared.answers.DayRefusal.TheVariants.{Fault, Int24, RecordsUnopened}
use Rattle.msr_replace.specs.declared.day.Judged.{Judged}
use Rattle.msr_replace.specs.declared.day.Judged.TheVariants as judged
use Rattle.msr_replace.specs.declared.verifying.Opened.{Opened}
use Rattle.msr_replace.specs.declared.verifying.Opened.TheVariants as opened
use Rattle.msr_exchange.specs.declared.work.DayWork.{DayWork}

-- a file that is opened has the bytes of its name
abbrev pub FindsOpen : Path → {T : Type 0} → (T → Device) → (old new : List Step) → Option T → Type 0
FindsOpen path device old new None = failures old < failures new
FindsOpen path device old new (Some reader) = Opens path old (device reader)

-- what is told of files that were opened and judged
abbrev pub opened_as_found : Result Finding VerifyFault → Opened
opened_as_found (Ok finding.Verified) = opened.Verified
opened_as_found (Ok finding.NotShown) = opened.Told NotShown
opened_as_found (Ok finding.Differs) = opened.Told Differs
opened_as_found (Err fault) = opened.Told (Refused (Fault fault))

abbrev pub IsOpenedDay : DayWork → Names → (report : Path) → (old new : List Step) → Opened → Type 0
IsOpenedDay work names report old new opened.Verified = IsFoundDay names report (Ok finding.Verified) old
IsOpenedDay work names report old new (opened.Told answer) = IsToldDay work names report answer old new

-- a reader has the bytes of a name
pub record ReadsName (path : Path) (device : Device) (past : List Step) : Type 0 where
  pub bytes : List ℕ
  pub is_seen : seen past path ≡ Some bytes
  pub gives : device ≡ unused (Some bytes)

-- the same where the report is open, and where the records are too
abbrev pub IsOpenedBy : DayWork → Names → (text : Device) → (old new : List Step) → Opened → Type 0
IsOpenedBy work names text old new opened = (report : Path) → ReadsName report text old → IsOpenedDay work names report old new opened

abbrev pub IsOpenedBeside : DayWork → Names → (text packed : Device) → (old new : List Step) → Opened → Type 0
IsOpenedBeside work names text packed old new opened = (report : Path) → ReadsName report text old → ReadsName names.records packed old
    → IsOpenedDay work names report old new opened

-- The text shows that the records are the fewest, if the answer is so.
pub record LeastOf (records report : Device) : Type 0 where
  pub first : List ℕ
  pub text : List ℕ
  pub left_records : HasLeft records first
  pub left_report : HasLeft report text
  pub least : IsShownLeast first text

abbrev pub IsLeastIf : (records report : Device) → Bool → Type 0
IsLeastIf records report answer = answer ≡ true → LeastOf records report

abbrev pub IsLeastBy : Report → (records : Device) → Bool → Type 0
IsLeastBy report records answer = answer ≡ true → (bytes : List ℕ) × HasLeft records bytes × ShowsLeast report bytes

-- The report shows that the day's own file is the fewest records.
pub record IsOwnLeast (names : Names) (report : Path) (past : List Step) : Type 0 where
  pub file : List ℕ
  pub text : List ℕ
  pub day : seen past names.day ≡ Some file
  pub shows : seen past report ≡ Some text
  pub least : IsShownLeast file text

abbrev pub ShowsItself : Names → (report : Path) → (old new : List Step) → Bool → Type 0
ShowsItself names report old new answer = answer ≡ true → IsOwnLeast names report old

abbrev pub ShowsItselfBy : Names → (text : Device) → (old new : List Step) → Bool → Type 0
ShowsItselfBy names text old new answer = answer ≡ true → (report : Path) → ReadsName report text old → IsOwnLeast names report old

-- what is told of files that were verified, or what goes on with them
abbrev pub verified_of : DayWork → (file records : Facts) → Judged
verified_of work file records =
    if work.only_smaller && leb file.bytes records.bytes
    then judged.Told (Larger file.bytes records.bytes)
    else judged.Verified (record { file = file; records = records; touch = work.touch })

-- what is told of the kinds of the records: nothing, if none has 24-bit integers
abbrev pub kinds_refusal : Result Bool ReadFault → Option DayRefusal
kinds_refusal (Ok true) = Some Int24
kinds_refusal (Ok false) = None
kinds_refusal (Err why) = Some RecordsUnopened

pub record LackInt24 (names : Names) (past : List Step) : Type 0 where
  pub records : List ℕ
  pub comes : seen past names.records ≡ Some records
  pub lacks : LacksInt24 records

abbrev pub TellsKinds : Names → (old new : List Step) → Option DayRefusal → Type 0
TellsKinds names old new None = LackInt24 names old
TellsKinds names old new (Some refusal) = (work : DayWork) (report : Path) → work.int24 ≡ false → AreVerified names report old → IsRefusedFor work names report refusal old new

-- what is known before anything is done
abbrev pub JudgesReplaceable : DayWork → Names → (report : Path) → (old new : List Step) → Judged → Type 0
JudgesReplaceable work names report old new (judged.Told answer) = IsToldDay work names report answer old new
JudgesReplaceable work names report old new (judged.Verified verified) = IsVerifiedDay work names report verified.file.bytes verified.records.bytes old

abbrev pub JudgesKinds : DayWork → Names → (file records : Facts) → (old new : List Step) → Judged → Type 0
JudgesKinds work names file records old new answer = (report : Path) → HaveLengths names file records old → IsFoundDay names report (Ok finding.Verified) old
    → JudgesReplaceable work names report old new answer

abbrev pub JudgesWhole : DayWork → Names → (report : Path) → (file records : Facts) → (old new : List Step) → Judged → Type 0
JudgesWhole work names report file records old new answer = HaveLengths names file records old → JudgesReplaceable work names report old new answer

-- what is known where records or report are missing, and by what was seen
abbrev pub JudgesMissing : DayWork → Names → (report : Path) → Looked → (old new : List Step) → Judged → Type 0
JudgesMissing work names report looked old new answer = IsSeenDay names report old old looked → SortsAs looked Missing → JudgesReplaceable work names report old new answer

abbrev pub JudgesSeen : DayWork → Names → (report : Path) → Looked → (old new : List Step) → Judged → Type 0
JudgesSeen work names report looked old new answer = IsSeenDay names report old old looked → JudgesReplaceable work names report old new answer
