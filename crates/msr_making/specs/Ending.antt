-- How a day ends.
use Rattle.std.specs.Prelude.{◌≡◌, ◌<◌, ℕ, ⊤, Bool, true, false, List, IfOk, IsOk, IsTrue, Some, Result, Ok, Err, length}
use Rattle.std.specs.declared.alloc.AllocError.{AllocError}
use Rattle.msr_options.specs.declared.days.DayOptions.{DayOptions}
use Rattle.msr_options.specs.declared.hint.Unopened.{Unopened}
use Rattle.msr_tree.specs.Folders.{ChangesFiles}
use Rattle.msr_tree.specs.Steps.{AtEachMoment, Path, Step, failures, seen}
use Rattle.msr_tree.specs.declared.tree.TreeFault.{TreeFault}
use Rattle.msr_tree.specs.declared.tree.TreeFault.TheVariants as fault
use Rattle.msr_naming.specs.Naming.{day_paths, told}
use Rattle.msr_naming.specs.Promise.{AreNamed, AreReady, HasOwn, HasReport, HaveDayNames, IsFreeIf, IsUnseenIf, ShowsDay}
use Rattle.msr_naming.specs.declared.fallback.Naming.{Naming}
use Rattle.msr_naming.specs.declared.files.DayFiles.{DayFiles}
use Rattle.msr_making.specs.Clearing.{SeesNoneBeside}
use Rattle.msr_making.specs.Day.{IsDayOutcome, IsDone, IsRepackedDay, IsVerifiedBy}
use Rattle.msr_making.specs.Looking.{Asks, IsSightKnown, IsLookedAt, SaysDay}
use Rattle.msr_making.specs.Making.{AwaitsStamp, IsOwnOfFile, IsUndone, WaitsForStamp}
use Rattle.msr_making.specs.Parts.{IsMadeSide, part_paths}
use Rattle.msr_making.specs.Places.{AreFileNames, DayPaths, ShowsAllLeft, paths_of}
use Rattle.msr_making.specs.Told.{AreSpared, IsKeptFor, IsOutcomeThere, IsRefusedThere, IsUnshrunk}
use Rattle.msr_making.specs.Writing.{IfSeen, IsFit, IsFitOf, IsWrittenTo}
use Rattle.msr_making.specs.declared.answer.DayEnd.{DayEnd}
use Rattle.msr_making.specs.declared.answer.DayFault.{DayFault}
use Rattle.msr_making.specs.declared.answer.DayFault.TheVariants.{CannotOpen}
use Rattle.msr_making.specs.declared.answer.Left.TheVariants as left
use Rattle.msr_making.specs.declared.answer.Repacked.{Repacked}
use Rattle.msr_making.specs.declared.answer.Stop.{Stop}
use Rattle.msr_making.specs.declared.answer.Stop.TheVariants.{Memory, Refused}
use Rattle.msr_making.specs.declared.looks.DayLook.{DayLook}
use Rattle.msr_making.specs.declared.making.Found.{Found}
use Rattle.msr_making.specs.declared.making.Found.TheVariants.{Ended, Open}
use Rattle.msr_making.specs.declared.making.Making.{Making}

-- what is told of some day
abbrev pub WasFound : DayOptions → Found → Type 0
WasFound asked (Ended outcome) = IsDayOutcome asked outcome
WasFound asked (Open look) = ⊤

abbrev pub IsRepackedAs : DayOptions → Result Repacked Stop → Type 0
IsRepackedAs asked (Ok repacked) = IsDone asked repacked
IsRepackedAs asked (Err (Refused why)) = IsRepackedDay asked (Err why)
IsRepackedAs asked (Err Memory) = ⊤

-- what was found of a day: what becomes of it, or what a look told
abbrev pub SaysFound : DayPaths → DayOptions → (old new : List Step) → Found → Type 0
SaysFound paths asked old new (Ended outcome) = IsOutcomeThere asked paths outcome old new
SaysFound paths asked old new (Open look) = SaysDay paths old new look × IsSightKnown look

abbrev pub SeeksDay : DayPaths → DayOptions → Result Found AllocError → (old new : List Step) → Type 0
SeeksDay paths asked result old new = Asks (SaysFound paths asked) result old new

-- These bytes were repacked, and what was written is on the disk beside the names of records and report; it is verified if
-- that is asked for.
pub record IsMadeReady (input : Path) (files : DayFiles) (asked : DayOptions) (repacked : Repacked) (old new : List Step) : Type 0 where
  pub bytes : List ℕ
  pub records : List ℕ
  pub text : List ℕ
  pub has_input : seen old input ≡ Some bytes
  pub fit : IsFitOf asked (length bytes) bytes records text repacked
  pub verified : IsTrue asked.check → IsVerifiedBy asked.options bytes records text
  pub unshrunk : IsUnshrunk asked (paths_of input files) repacked old
  pub ready : AreReady files records text new

-- a call failed if a day that is to be made is refused for what could not be opened or made
abbrev pub FailsFor : DayFault → (old new : List Step) → Type 0
FailsFor (CannotOpen unopened) old new = failures old < failures new
FailsFor why old new = Unit {0}

-- what an answer says of a day of which a look told
abbrev pub PreparedAs : Path → DayFiles → DayOptions → Result Repacked Stop → (old new : List Step) → Type 0
PreparedAs input files asked (Ok repacked) old new = IsMadeReady input files asked repacked old new
PreparedAs input files asked (Err (Refused (CannotOpen unopened))) old new = FailsFor (CannotOpen unopened) old new
PreparedAs input files asked (Err (Refused why)) old new = IsRefusedThere asked (paths_of input files) why old new
PreparedAs input files asked (Err Memory) old new = Unit {0}

pub record PreparesDay (input : Path) (look : DayLook) (files : DayFiles) (asked : DayOptions) (result : Result Repacked Stop) (old new : List Step) : Type 0 where
  pub changes : ChangesFiles (part_paths files) old new
  pub said : AreFileNames input files → IsLookedAt (paths_of input files) look old → PreparedAs input files asked result old new

-- Before it is verified: it was written, with no fewer samples than an earlier walk left, if that is to stay.
pub record IsWrittenWell (input : Path) (files : DayFiles) (asked : DayOptions) (repacked : Repacked) (old new : List Step) : Type 0 where
  pub wrote : IfSeen input old (λ bytes. IsWrittenTo files asked (length bytes) bytes new repacked)
  pub unshrunk : IsUnshrunk asked (paths_of input files) repacked old

abbrev pub HeldAs : Path → DayFiles → DayOptions → Result Repacked Stop → (old new : List Step) → Type 0
HeldAs input files asked (Ok repacked) old new = IsWrittenWell input files asked repacked old new
HeldAs input files asked (Err stop) old new = PreparedAs input files asked (Err stop) old new

pub record WritesHeld (input : Path) (look : DayLook) (files : DayFiles) (asked : DayOptions) (result : Result Repacked Stop) (old new : List Step) : Type 0 where
  pub changes : ChangesFiles (part_paths files) old new
  pub said : AreFileNames input files → IsLookedAt (paths_of input files) look old → HeldAs input files asked result old new

-- what that says of some day
abbrev pub WasHeld : DayOptions → Result Repacked Stop → Type 0
WasHeld asked (Ok repacked) = IsFit asked repacked
WasHeld asked (Err stop) = IsRepackedAs asked (Err stop)

-- what is told where names were given, or not
abbrev pub NamedAs : Repacked → Result (Unit {0}) TreeFault → Result Repacked Stop → Type 0
NamedAs repacked (Ok x) result = result ≡ Ok repacked
NamedAs repacked (Err fault.Failed) result = (unopened : Unopened) × IsMadeSide unopened.side × (result ≡ Err (Refused (CannotOpen unopened)))
NamedAs repacked (Err fault.Memory) result = result ≡ Err Memory

abbrev pub IsNamedAs : Naming → Repacked → Result Repacked Stop → Type 0
IsNamedAs naming repacked result = NamedAs repacked (told naming.answer) result

-- They have their names.
pub record IsMade (input : Path) (files : DayFiles) (asked : DayOptions) (is_free is_stored : Bool) (repacked : Repacked) (old new : List Step) : Type 0 where
  pub bytes : List ℕ
  pub records : List ℕ
  pub text : List ℕ
  pub has_input : seen old input ≡ Some bytes
  pub fit : IsFitOf asked (length bytes) bytes records text repacked
  pub verified : IsTrue asked.check → IsVerifiedBy asked.options bytes records text
  pub unshrunk : IsUnshrunk asked (paths_of input files) repacked old
  pub has_records : seen new files.records.path ≡ Some records
  pub has_report : seen new files.report.path ≡ Some text
  pub stands : IsUnseenIf is_free files old → HaveDayNames files records text new
  pub named : is_stored ≡ true → IsFreeIf is_free files old → AreNamed files records text new

abbrev pub MadeAs : Path → DayFiles → DayOptions → (is_free is_stored : Bool) → Result Repacked Stop → (old new : List Step) → Type 0
MadeAs input files asked is_free is_stored (Ok repacked) old new = IsMade input files asked is_free is_stored repacked old new
MadeAs input files asked is_free is_stored (Err (Refused why)) old new = IsRefusedThere asked (paths_of input files) why old new
    × FailsFor why old new × IsKeptFor why (paths_of input files) old new × AreSpared (paths_of input files) old new
MadeAs input files asked is_free is_stored (Err Memory) old new = Unit {0}

pub record MakesDay (input : Path) (look : DayLook) (files : DayFiles) (is_free : Bool) (asked : DayOptions) (making : Making) (old new : List Step) : Type 0 where
  pub safe : making.is_stored ≡ true → (is_own : (records report : List ℕ) → Bool) (is_of : (stamp records report : List ℕ) → Bool)
      → AreFileNames input files → IsLookedAt (paths_of input files) look old → IsFreeIf is_free files old → IsOwnOfFile input asked.options is_own old
      → HasOwn is_own is_of files old → AtEachMoment (HasOwn is_own is_of files) old new
  pub killed : (is_own : (records report : List ℕ) → Bool)
      → AreFileNames input files → IsLookedAt (paths_of input files) look old → IsUnseenIf is_free files old → IsOwnOfFile input asked.options is_own old
      → HasReport is_own files old → AtEachMoment (HasReport is_own files) old new
  pub said : AreFileNames input files → IsLookedAt (paths_of input files) look old → MadeAs input files asked is_free making.is_stored making.result old new
  pub leaves : (making.result ≡ Err Memory → ⊥) → failures new ≡ failures old
      → AreFileNames input files → IsLookedAt (paths_of input files) look old → IsUnseenIf is_free files old → ShowsDay files old → ShowsDay files new
  pub unstored : making.is_stored ≡ false → failures old < failures new
  pub changes : ChangesFiles (day_paths files) old new

-- A day is done of which a look told.
pub record DoesFound (input : Path) (look : DayLook) (files : DayFiles) (was_left : Bool) (asked : DayOptions) (end : DayEnd) (old new : List Step) : Type 0 where
  pub safe : end.is_stored ≡ true → (is_own : (records report : List ℕ) → Bool) (is_of : (stamp records report : List ℕ) → Bool)
      → AreFileNames input files → IsLookedAt (paths_of input files) look old → ShowsAllLeft was_left input files old → IsOwnOfFile input asked.options is_own old
      → HasOwn is_own is_of files old → AtEachMoment (HasOwn is_own is_of files) old new
  pub killed : (is_own : (records report : List ℕ) → Bool)
      → AreFileNames input files → IsLookedAt (paths_of input files) look old → IsOwnOfFile input asked.options is_own old
      → HasReport is_own files old → AtEachMoment (HasReport is_own files) old new
  pub outcome : AreFileNames input files → IsLookedAt (paths_of input files) look old
      → IfOk end.outcome (λ outcome. IsOutcomeThere asked (paths_of input files) outcome old new)
  pub stamp : end.left ≡ left.Stamp → AreFileNames input files → IsLookedAt (paths_of input files) look old → ShowsAllLeft was_left input files old
      → AwaitsStamp input files asked.options old new
  pub waits : end.left ≡ left.Stamp → AreFileNames input files → IsLookedAt (paths_of input files) look old → WaitsForStamp input files asked.options old new
  pub leaves : IsOk end.outcome → failures new ≡ failures old
      → AreFileNames input files → IsLookedAt (paths_of input files) look old → ShowsDay files old → ShowsDay files new
  pub rest : end.left ≡ left.Nothing → IfOk end.outcome IsUndone → AreFileNames input files → SeesNoneBeside files new
  pub unstored : end.is_stored ≡ false → failures old < failures new
  pub changes : ChangesFiles (day_paths files) old new
