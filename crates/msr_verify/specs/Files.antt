-- What is told of an archive, by what the names in its folders lead to.
use Rattle.std.specs.Prelude.{◌≡◌, ◌<◌, ◌⊎◌, ℕ, Bool, true, false, List, [], ◌∷◌, ◌++◌, Option, None, Some, Result, Ok, Err, codes, IfOk}
use Rattle.std.specs.Borrow.{Bor}
use Rattle.msr_devices.specs.declared.fault.DeviceFault.{DeviceFault}
use Rattle.msr_tree.specs.Calls.{AreOneFile}
use Rattle.msr_tree.specs.Listing.{is_there, unlisted_after}
use Rattle.msr_tree.specs.Reads.{OnlyLooks, OnlyReads}
use Rattle.msr_tree.specs.Steps.{Path, Step, failures, seen}
use Rattle.msr_tree.specs.declared.kind.FileKind.{FileKind}
use Rattle.msr_tree.specs.declared.kind.FileKind.TheVariants.{Gone}
use Rattle.msr_options.specs.Days.{names_for}
use Rattle.msr_options.specs.declared.names.DayName.{DayName}
use Rattle.msr_options.specs.declared.names.Names.{Names}
use Rattle.msr_options.specs.declared.names.Names.TheVariants.{Any, Of, Own}
use Rattle.msr_report.specs.declared.report.Report.{Report}
use Rattle.msr_report_reader.specs.Reading.{IsReadFrom}
use Rattle.msr_folders.specs.Belonging.{IsFoundAsAsked, told_segments}
use Rattle.msr_folders.specs.Names.{day_name}
use Rattle.msr_sds.specs.SdsPath.{ReadsAsDay, SdsPath}
use Rattle.msr_sds.specs.declared.SdsFault.{SdsFault}
use Rattle.msr_folders.specs.Days.{IsDay, IsNoDay}
use Rattle.msr_folders.specs.Entries.{AreEntriesOf, Entry, ForEach, Left, Passed, Visit, WithoutList, unlisted_in}
use Rattle.msr_folders.specs.Paths.{ended, joined, told_folder}
use Rattle.msr_verify.specs.Day.{DayAnswers, IsUnfinished, IsShownLeast}
use Rattle.msr_options.specs.declared.known.Known.{Known as Asked}
use Rattle.msr_verify.specs.Entries.{JudgedEntry}
use Rattle.msr_verify.specs.Known.{judged_known_as}
use Rattle.msr_verify.specs.declared.judging.Finding.{Finding}
use Rattle.msr_verify.specs.declared.judging.Finding.TheVariants as finding
use Rattle.msr_verify.specs.declared.judging.VerifyFault.{VerifyFault}
use Rattle.msr_verify.specs.declared.judgement.Judgement.{Judgement}
use Rattle.msr_verify.specs.declared.judgement.Judgement.TheVariants.{Verified, InPlace, Missing, NotShown, Differs, Misplaced, Refused, Skipped, Orphan, Known, KnownMissing}
use Rattle.msr_verify.specs.declared.judgement.Refusal.TheVariants.{FileUnopened, RecordsUnopened, ReportUnopened, SameFile, Listing, RecordsListing, Day}

-- Where the files of a day stand.
pub record DayPlaces : Type 0 where
  pub file : Path
  pub records : Path
  pub report : Path

abbrev pub day_places : (root out reports path : Path) → DayPlaces
day_places root out reports path = record {
  file = joined root path;
  records = joined out path;
  report = ended (joined reports path) (codes ".txt");
}

-- The files of a day have bytes of which this is the answer, and the records are not the day's own file.
pub record AnswerThere (places : DayPlaces) (past : List Step) (answer : Result Finding VerifyFault) : Type 0 where
  pub file : List ℕ
  pub records : List ℕ
  pub text : List ℕ
  pub has_file : seen past places.file ≡ Some file
  pub has_records : seen past places.records ≡ Some records
  pub has_report : seen past places.report ≡ Some text
  pub answers : DayAnswers file records text answer
  pub apart : ¬ (AreOneFile places.file places.records past)

-- The report shows that the day's own file is records, and the fewest.
pub record IsShownInPlace (places : DayPlaces) (past : List Step) : Type 0 where
  pub file : List ℕ
  pub text : List ℕ
  pub has_file : seen past places.file ≡ Some file
  pub has_report : seen past places.report ≡ Some text
  pub shown : IsShownLeast file text

-- There are no records, and the day's own file or its report was not read to its end.
pub record IsCutAlone (places : DayPlaces) (fault : VerifyFault) (past : List Step) : Type 0 where
  pub no_records : is_there past places.records ≡ false
  pub cut : IsUnfinished fault

-- There are no records, and what else is there does not show it, unless a call failed.
pub record IsNotInPlace (places : DayPlaces) (old new : List Step) : Type 0 where
  pub no_records : is_there old places.records ≡ false
  pub unshown : (¬ (IsShownInPlace places old)) ⊎ (failures old < failures new)

-- What a judgement says of the files of a day. A file that is told as not opened could not be opened: a call failed.
abbrev pub IsJudgementThere : DayPlaces → Judgement → (old new : List Step) → Type 0
IsJudgementThere places Verified old new = AnswerThere places old (Ok finding.Verified)
IsJudgementThere places NotShown old new = AnswerThere places old (Ok finding.NotShown)
IsJudgementThere places Differs old new = AnswerThere places old (Ok finding.Differs)
IsJudgementThere places (Refused (Day fault)) old new = AnswerThere places old (Err fault) ⊎ IsCutAlone places fault old
IsJudgementThere places InPlace old new = (is_there old places.records ≡ false) × IsShownInPlace places old
IsJudgementThere places Missing old new = (is_there old places.report ≡ false) ⊎ IsNotInPlace places old new
IsJudgementThere places (Refused SameFile) old new = AreOneFile places.file places.records old ⊎ (failures old < failures new)
IsJudgementThere places (Refused FileUnopened) old new = failures old < failures new
IsJudgementThere places (Refused RecordsUnopened) old new = failures old < failures new
IsJudgementThere places (Refused ReportUnopened) old new = failures old < failures new
IsJudgementThere places (Refused Listing) old new = ⊥
IsJudgementThere places (Refused RecordsListing) old new = ⊥
IsJudgementThere places (Skipped fault) old new = ⊥
IsJudgementThere places (Misplaced found) old new = ⊥
IsJudgementThere places Orphan old new = ⊥
IsJudgementThere places (Known refusal) old new = ⊥
IsJudgementThere places KnownMissing old new = ⊥

-- what is answered of a day
pub record JudgesDay (places : DayPlaces) (result : Result Judgement DeviceFault) (old new : List Step) : Type 0 where
  pub looks : OnlyLooks old new
  pub says : IfOk result (λ judgement. IsJudgementThere places judgement old new)

-- the names that are asked of all days: each its own, or any
abbrev pub names_asked : (own : Bool) → Names
names_asked true = Own
names_asked false = Any

-- The report tells segments of which this is found.
pub record TellsSegments (names : Names) (place : Path) (found : Option DayName) (past : List Step) : Type 0 where
  pub text : List ℕ
  pub report : Report
  pub has_report : seen past place ≡ Some text
  pub read : IsReadFrom report text
  pub is : IsFoundAsAsked names (told_segments report.segments.items) found

-- What a judgement says of the files of a day of which it may be asked that its segments belong to it: one that would be
-- verified or in place is misplaced exactly if they do not.
abbrev pub IsNamedThere : Names → DayPlaces → Judgement → (old new : List Step) → Type 0
IsNamedThere names places Verified old new = IsJudgementThere places Verified old new × TellsSegments names places.report None old
IsNamedThere names places InPlace old new = IsJudgementThere places InPlace old new × TellsSegments names places.report None old
IsNamedThere names places (Misplaced found) old new =
    (IsJudgementThere places Verified old new ⊎ IsJudgementThere places InPlace old new) × TellsSegments names places.report (Some found) old
IsNamedThere names places judgement old new = IsJudgementThere places judgement old new

-- whether that is asked of a day with this judgement
abbrev pub asks_again : Names → Judgement → Bool
asks_again (Of name) Verified = true
asks_again (Of name) InPlace = true
asks_again names judgement = false

-- what is answered of such a day
pub record JudgesNamed (names : Names) (places : DayPlaces) (result : Result Judgement DeviceFault) (old new : List Step) : Type 0 where
  pub looks : OnlyLooks old new
  pub says : IfOk result (λ judgement. IsNamedThere names places judgement old new)

-- what is told of what is no day: that it could not be opened, if it is gone
abbrev pub other_judgement : FileKind → SdsFault → Judgement
other_judgement Gone fault = Refused FileUnopened
other_judgement kind fault = Skipped fault

-- What is told of an entry of the archive: of a day what its files show, of anything else why it is no day. It may be asked
-- that the segments of a day are those of its path.
pub record IsToldOfEntry (names : Names) (places : DayPlaces) (path : Path) (kind : FileKind) (judgement : Judgement) (old new : List Step) : Type 0 where
  pub day : IsDay path → (name : SdsPath) × ReadsAsDay path name × IsNamedThere (names_for (day_name name) names) places judgement old new
  pub other : (¬ (IsDay path)) → (fault : SdsFault) × IsNoDay path fault × (judgement ≡ other_judgement kind fault)

-- the one entry that is told of a visit of the archive, as known if it is
abbrev pub IsToldOfRoot : Asked → Names → (root out reports : Path) → (old new : List Step) → Visit → List JudgedEntry → Type 0
IsToldOfRoot asked names root out reports old new (Entry path kind) entries = (judgement : Judgement)
    × (entries ≡ record { path = path; judgement = judged_known_as asked path judgement } ∷ [])
    × IsToldOfEntry names (day_places root out reports path) path kind judgement old new
IsToldOfRoot asked names root out reports old new (WithoutList folder) entries =
    entries ≡ record { path = told_folder folder; judgement = judged_known_as asked (told_folder folder) (Refused Listing) } ∷ []
IsToldOfRoot asked names root out reports old new (Passed folder) entries = ⊥
IsToldOfRoot asked names root out reports old new (Left folder) entries = entries ≡ []

-- Of a visit of the records it is told if it is a day that the archive does not have, or a folder that is there.
pub record IsToldOfRecord (root path : Path) (entries : List JudgedEntry) (old new : List Step) : Type 0 where
  pub orphan : IsDay path → ((entries ≡ record { path = path; judgement = Orphan } ∷ []) × (is_there old (joined root path) ≡ false))
      ⊎ ((entries ≡ []) × ((is_there old (joined root path) ≡ true) ⊎ (failures old < failures new)))
  pub other : (¬ (IsDay path)) → entries ≡ []

abbrev pub IsToldOfOut : Asked → (root out : Path) → (old new : List Step) → Visit → List JudgedEntry → Type 0
IsToldOfOut asked root out old new (Entry path kind) entries = IsToldOfRecord root path entries old new
IsToldOfOut asked root out old new (WithoutList folder) entries =
    (entries ≡ record { path = told_folder folder; judgement = judged_known_as asked (told_folder folder) (Refused RecordsListing) } ∷ [])
    ⊎ ((entries ≡ []) × (is_there old (joined out folder) ≡ false))
IsToldOfOut asked root out old new (Passed folder) entries = ⊥
IsToldOfOut asked root out old new (Left folder) entries = entries ≡ []

-- What was told of an archive, and of its records: of each entry, in order. Nothing was changed.
pub record IsArchiveVerified (asked : Asked) (names : Names) (root out reports : Path) (below : List (Bor Path)) (entries orphans : List JudgedEntry) (old new : List Step) : Type 0 where
  pub visits : List Visit
  pub are : AreEntriesOf old root below visits
  pub told : ForEach (IsToldOfRoot asked names root out reports old new) visits entries
  pub records : List Visit
  pub are_records : AreEntriesOf old out below records
  pub told_records : ForEach (IsToldOfOut asked root out old new) records orphans
  pub unlisted : unlisted_after new ≡ unlisted_after old ++ (unlisted_in root visits ++ unlisted_in out records)
  pub reads : OnlyReads old new
