-- What is promised of the files that are made of a day.
use Rattle.std.specs.Prelude.{◌<◌, ◌≡◌, ℕ, Bool, true, false, List, [], ◌∷◌, ◌++◌, Option, None, Some, IfSome, IsSomeAnd, OnOk, IsErrOf, Result}
use Rattle.std.specs.List.{AllByRecursion}
use Rattle.msr_tree.specs.Folders.{ChangesFiles}
use Rattle.msr_tree.specs.Steps.{AtEachMoment, IsReady, Leaves, MayLeave, Path, Step, failures, seen, stands_in}
use Rattle.msr_tree.specs.declared.tree.TreeFault.{TreeFault}
use Rattle.msr_tree.specs.declared.tree.TreeFault.TheVariants.{Failed}
use Rattle.msr_naming.specs.declared.files.DayFiles.{DayFiles}
use Rattle.msr_naming.specs.Naming.{AreDayNames, IsOther, day_paths, told}
use Rattle.msr_naming.specs.declared.fallback.Naming.{Naming}

-- Whatever the power leaves of a day when it is cut: records beside their own report, or beside none; a stamp beside the
-- records and the report that it is of.
pub record HasOwn (is_own : (records report : List ℕ) → Bool) (is_of : (stamp records report : List ℕ) → Bool) (files : DayFiles) (past : List Step) : Type 0 where
  pub report : (records report : Option (List ℕ)) → MayLeave past files.records.path records → MayLeave past files.report.path report
      → IfSome records (λ r. IfSome report (λ p. is_own r p ≡ true))
  pub stamp : (stamp records report : Option (List ℕ)) → MayLeave past files.stamp.path stamp → MayLeave past files.records.path records
      → MayLeave past files.report.path report → IfSome stamp (λ s. IsSomeAnd records (λ r. IsSomeAnd report (λ p. is_of s r p ≡ true)))

-- What a kill leaves of a day: records beside their own report.
pub record HasReport (is_own : (records report : List ℕ) → Bool) (files : DayFiles) (past : List Step) : Type 0 where
  pub report : IfSome (seen past files.records.path) (λ r. IsSomeAnd (seen past files.report.path) (λ p. is_own r p ≡ true))

-- Each crash leaves nothing of the day.
pub record IsFree (files : DayFiles) (past : List Step) : Type 0 where
  pub records : Leaves past files.records.path None
  pub report : Leaves past files.report.path None
  pub stamp : Leaves past files.stamp.path None

-- The new records and report of a day are on the disk, beside their names.
pub record AreReady (files : DayFiles) (records report : List ℕ) (past : List Step) : Type 0 where
  pub records_are : IsReady files.records.part records past
  pub report_is : IsReady files.report.part report past

-- Some are, and the report is that of the records.
pub record HaveOwnParts (files : DayFiles) (is_own : (records report : List ℕ) → Bool) (past : List Step) : Type 0 where
  pub records : List ℕ
  pub report : List ℕ
  pub ready : AreReady files records report past
  pub own : is_own records report ≡ true

-- They have their names, and each crash leaves no stamp.
pub record AreNamed (files : DayFiles) (records report : List ℕ) (past : List Step) : Type 0 where
  pub records_are : IsReady files.records.path records past
  pub report_is : IsReady files.report.path report past
  pub unstamped : Leaves past files.stamp.path None

-- They have their names, and no stamp is seen.
pub record HaveDayNames (files : DayFiles) (records report : List ℕ) (past : List Step) : Type 0 where
  pub records_are : IsReady files.records.path records past
  pub report_is : IsReady files.report.path report past
  pub unseen : seen past files.stamp.path ≡ None

-- What was beside the names of a day has them.
pub record GivesNames (files : DayFiles) (old new : List Step) : Type 0 where
  pub named : (records report : List ℕ) → AreReady files records report old → AreNamed files records report new

-- some are, and nothing is left of the day
abbrev pub OverNothing : (files : DayFiles) → (is_own : (records report : List ℕ) → Bool) → List Step → Type 0
OverNothing files is_own past = HaveOwnParts files is_own past × IsFree files past

-- nothing is seen under the names of a day
abbrev pub SeesNone : DayFiles → List Step → Type 0
SeesNone files past = (seen past files.records.path ≡ None) × (seen past files.report.path ≡ None) × (seen past files.stamp.path ≡ None)

-- What is not seen of a day cannot come back.
pub record ShowsDay (files : DayFiles) (past : List Step) : Type 0 where
  pub free : SeesNone files past → IsFree files past
  pub unstamped : seen past files.stamp.path ≡ None → Leaves past files.stamp.path None

-- some are, and nothing is seen of the day
abbrev pub OverUnseen : (files : DayFiles) → (is_own : (records report : List ℕ) → Bool) → List Step → Type 0
OverUnseen files is_own past = HaveOwnParts files is_own past × SeesNone files past

-- A day that has its own before a call has it at each moment since, also if the power is cut then; if the call succeeds,
-- this is done; no name that is not of the day leads elsewhere; and a failure is told only if a call has failed.
pub record KeepsOwn (files : DayFiles) (before : (is_own : (records report : List ℕ) → Bool) → List Step → Type 0) (Done : (old new : List Step) → Type 0)
    (result : Result (Unit {0}) TreeFault) (old new : List Step) : Type 0 where
  pub safe : (is_own : (records report : List ℕ) → Bool) (is_of : (stamp records report : List ℕ) → Bool)
      → AreDayNames files → before is_own old → HasOwn is_own is_of files old → AtEachMoment (HasOwn is_own is_of files) old new
  pub done : OnOk result (AreDayNames files → Done old new)
  pub changes : ChangesFiles (day_paths files) old new
  pub cause : IsErrOf result Failed → failures old < failures new

-- Records that have their report before a call have it at each moment since, if the walk is killed then; no name that is not
-- of the day leads elsewhere; and a failure is told only if a call has failed.
pub record KeepsIfKilled (files : DayFiles) (before : (is_own : (records report : List ℕ) → Bool) → List Step → Type 0)
    (result : Result (Unit {0}) TreeFault) (old new : List Step) : Type 0 where
  pub killed : (is_own : (records report : List ℕ) → Bool) → AreDayNames files → before is_own old → HasReport is_own files old
      → AtEachMoment (HasReport is_own files) old new
  pub changes : ChangesFiles (day_paths files) old new
  pub cause : IsErrOf result Failed → failures old < failures new

-- The stamp of a day is on the disk, beside its name, and the records and the report that it is of have theirs. An old
-- stamp may come back, if it is of those too.
pub record IsToBeStamped (files : DayFiles) (stamp records report : List ℕ) (past : List Step) : Type 0 where
  pub named : HaveDayNames files records report past
  pub stamp_is : IsReady files.stamp.part stamp past

-- the folders of a day's records and report
pub record StandInFolders (out reports : Path) (files : DayFiles) : Type 0 where
  pub records_in : stands_in out files.records.path ≡ true
  pub report_in : stands_in reports files.report.path ≡ true

-- no name of a day is one of these
abbrev pub AreOthers : (files : DayFiles) (days : List DayFiles) → Type 0
AreOthers files days = AllByRecursion (λ day. IsOther files day) days

-- A day is one of some, and no name of it is another's.
pub record IsOneOf (files : DayFiles) (days : List DayFiles) : Type 0 where
  pub before : List DayFiles
  pub after : List DayFiles
  pub are : days ≡ before ++ files ∷ after
  pub others_before : AreOthers files before
  pub others_after : AreOthers files after

-- the names of the stamps of days, with those beside them
abbrev pub stamp_paths : List DayFiles → List Path
stamp_paths [] = []
stamp_paths (files ∷ days) = files.stamp.path ∷ files.stamp.part ∷ stamp_paths days

-- The stamps of days get their names, and no other name changes: each of these days that has its own before has it at each
-- moment since. A stamp that could not come back before, and is not seen, cannot.
pub record NamesStamps (out reports : Path) (days : List DayFiles) (result : Result (Unit {0}) TreeFault) (old new : List Step) : Type 0 where
  pub safe : (is_own : (records report : List ℕ) → Bool) (is_of : (stamp records report : List ℕ) → Bool)
      (files : DayFiles) (stamp records report : List ℕ) → AreDayNames files → StandInFolders out reports files → IsOneOf files days
      → IsToBeStamped files stamp records report old → is_of stamp records report ≡ true
      → HasOwn is_own is_of files old → AtEachMoment (HasOwn is_own is_of files) old new
  pub done : OnOk result ((files : DayFiles) (stamp : List ℕ) → AreDayNames files → IsOneOf files days
      → IsReady files.stamp.part stamp old → seen new files.stamp.path ≡ Some stamp)
  pub unstamped : (files : DayFiles) → IsOneOf files days → Leaves old files.stamp.path None
      → seen new files.stamp.path ≡ None → Leaves new files.stamp.path None
  pub changes : ChangesFiles (stamp_paths days) old new
  pub cause : IsErrOf result Failed → failures old < failures new

-- where it is told that nothing is left of the day, nothing is
abbrev pub IsFreeIf : Bool → DayFiles → List Step → Type 0
IsFreeIf is_free files past = is_free ≡ true → IsFree files past

-- where that is told, nothing is seen of the day
abbrev pub IsUnseenIf : Bool → DayFiles → List Step → Type 0
IsUnseenIf is_free files past = is_free ≡ true → SeesNone files past

-- what was beside the names of records and report is seen under them
abbrev pub SeesNames : DayFiles → (old new : List Step) → Type 0
SeesNames files old new = (records report : List ℕ) → AreReady files records report old
    → (seen new files.records.path ≡ Some records) × (seen new files.report.path ≡ Some report)

-- on the disk, and no stamp is seen
abbrev pub StoresNames : DayFiles → (old new : List Step) → Type 0
StoresNames files old new = (records report : List ℕ) → AreReady files records report old → HaveDayNames files records report new

-- nor can what is not seen come back, if it could not before
abbrev pub KeepsShown : DayFiles → (old new : List Step) → Type 0
KeepsShown files old new = (records report : List ℕ) → AreReady files records report old → ShowsDay files old → ShowsDay files new

-- Records and report get their names. If the day has its own before, it has it at each moment since: whatever a crash leaves
-- then, if each folder was stored; and in any case if the walk is killed then.
pub record NamesDay (files : DayFiles) (is_free : Bool) (naming : Naming) (old new : List Step) : Type 0 where
  pub safe : naming.is_stored ≡ true → (is_own : (records report : List ℕ) → Bool) (is_of : (stamp records report : List ℕ) → Bool)
      → AreDayNames files → HaveOwnParts files is_own old → IsFreeIf is_free files old
      → HasOwn is_own is_of files old → AtEachMoment (HasOwn is_own is_of files) old new
  pub killed : (is_own : (records report : List ℕ) → Bool) → AreDayNames files → HaveOwnParts files is_own old → IsUnseenIf is_free files old
      → HasReport is_own files old → AtEachMoment (HasReport is_own files) old new
  pub sees : OnOk (told naming.answer) (AreDayNames files → SeesNames files old new)
  pub gives : OnOk (told naming.answer) (naming.is_stored ≡ true → AreDayNames files → IsFreeIf is_free files old → GivesNames files old new)
  pub ready : OnOk (told naming.answer) (AreDayNames files → IsUnseenIf is_free files old → StoresNames files old new)
  pub leaves : OnOk (told naming.answer) (naming.is_stored ≡ true → AreDayNames files → IsUnseenIf is_free files old → KeepsShown files old new)
  pub changes : ChangesFiles (day_paths files) old new
  pub cause : IsErrOf (told naming.answer) Failed → failures old < failures new
  pub unstored : naming.is_stored ≡ false → failures old < failures new

-- The same of a day whose files go.
pub record ClearsDay (files : DayFiles) (naming : Naming) (old new : List Step) : Type 0 where
  pub safe : naming.is_stored ≡ true → (is_own : (records report : List ℕ) → Bool) (is_of : (stamp records report : List ℕ) → Bool)
      → AreDayNames files → HasOwn is_own is_of files old → AtEachMoment (HasOwn is_own is_of files) old new
  pub killed : (is_own : (records report : List ℕ) → Bool) → AreDayNames files
      → HasReport is_own files old → AtEachMoment (HasReport is_own files) old new
  pub sees : OnOk (told naming.answer) (AreDayNames files → SeesNone files new)
  pub gone : OnOk (told naming.answer) (naming.is_stored ≡ true → AreDayNames files → IsFree files new)
  pub changes : ChangesFiles (day_paths files) old new
  pub cause : IsErrOf (told naming.answer) Failed → failures old < failures new
  pub unstored : naming.is_stored ≡ false → failures old < failures new
