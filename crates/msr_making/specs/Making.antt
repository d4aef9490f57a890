-- What is done with a day.
use Rattle.std.specs.Prelude.{◌≡◌, ◌<◌, ℕ, Bool, true, false, List, [], None, Some, Option, IfOk, IfSome, IsOk, Result}
use Rattle.std.specs.declared.alloc.AllocError.{AllocError}
use Rattle.msr_options.specs.Choice.{Choice}
use Rattle.msr_options.specs.declared.days.DayOptions.{DayOptions}
use Rattle.msr_report.specs.declared.report.Report.{Report}
use Rattle.msr_tool.specs.Tasks.{IsReported}
use Rattle.msr_tree.specs.Calls.{Looks}
use Rattle.msr_tree.specs.Folders.{ChangesFiles}
use Rattle.msr_tree.specs.Steps.{AtEachMoment, IsReady, Leaves, Path, Step, failures, seen}
use Rattle.msr_tree.specs.declared.facts.Facts.{Facts}
use Rattle.msr_naming.specs.Naming.{day_paths}
use Rattle.msr_naming.specs.Promise.{HasOwn, HasReport, HaveDayNames, ShowsDay}
use Rattle.msr_naming.specs.declared.files.DayFiles.{DayFiles}
use Rattle.msr_making.specs.Clearing.{SeesNoneBeside}
use Rattle.msr_making.specs.Places.{AreFileNames, DayPaths, ShowsAllLeft, paths_of}
use Rattle.msr_naming.specs.Stamp.{stamp_of, stamp_text}
use Rattle.msr_naming.specs.declared.stamp.StampOf.TheVariants.{Input}
use Rattle.msr_making.specs.Told.{IsOutcomeThere, IsSameThere}
use Rattle.msr_making.specs.declared.answer.DayEnd.{DayEnd}
use Rattle.msr_making.specs.declared.answer.DayOutcome.{DayOutcome}
use Rattle.msr_making.specs.declared.answer.DayOutcome.TheVariants.{Done}
use Rattle.msr_making.specs.declared.answer.Left.TheVariants as left
use Rattle.msr_making.specs.declared.answer.Repacked.{Repacked}

-- the report of a repack of what the day's file has is that of its records
abbrev pub IsOwnOfFile : Path → Choice → ((records report : List ℕ) → Bool) → List Step → Type 0
IsOwnOfFile input choice is_own past = (bytes records text : List ℕ) (report : Report) → seen past input ≡ Some bytes
    → IsReported choice bytes records text report → is_own records text ≡ true

-- the stamp of the day's file, as a look finds it, is of the records and the report of a repack of what it has
abbrev pub IsStampOfFile : Path → Choice → ((stamp records report : List ℕ) → Bool) → List Step → Type 0
IsStampOfFile input choice is_of past = (facts : Facts) (bytes records text : List ℕ) (report : Report) → Looks input past (Some facts)
    → seen past input ≡ Some bytes → IsReported choice bytes records text report → is_of (stamp_text Input (stamp_of facts)) records text ≡ true

-- A stamp stands beside its name, on the disk: that of the day's file as a look found it before it was repacked. The names
-- of records and report lead to those of a repack of what it had then, and no stamp is seen.
pub record WaitsForStamp (input : Path) (files : DayFiles) (choice : Choice) (old new : List Step) : Type 0 where
  pub facts : Facts
  pub looked : Looks input old (Some facts)
  pub bytes : List ℕ
  pub records : List ℕ
  pub text : List ℕ
  pub report : Report
  pub has_input : seen old input ≡ Some bytes
  pub reported : IsReported choice bytes records text report
  pub named : HaveDayNames files records text new
  pub stamp_is : IsReady files.stamp.part (stamp_text Input (stamp_of facts)) new

-- Nor can one come back.
pub record AwaitsStamp (input : Path) (files : DayFiles) (choice : Choice) (old new : List Step) : Type 0 where
  pub waits : WaitsForStamp input files choice old new
  pub unstamped : Leaves new files.stamp.path None

-- a day is left as it is, or refused
abbrev pub IsUndone : DayOutcome → Type 0
IsUndone (Done repacked) = ⊥
IsUndone outcome = Unit {0}

-- A day is done, or left as it is, or refused. If it has its own before, it has it at each moment since: whatever a crash
-- leaves then, if each folder was stored that was to be; and in any case if the walk is killed then. If it ends and no call
-- fails, what is not seen of it cannot come back, if it could not before. If it is not done, and told that nothing is left,
-- nothing is seen beside its names, also if a call failed, if nothing was before.
pub record DoesDay (input : Path) (files : DayFiles) (was_left : Bool) (asked : DayOptions) (end : DayEnd) (old new : List Step) : Type 0 where
  pub safe : end.is_stored ≡ true → (is_own : (records report : List ℕ) → Bool) (is_of : (stamp records report : List ℕ) → Bool)
      → AreFileNames input files → ShowsAllLeft was_left input files old → IsOwnOfFile input asked.options is_own old
      → HasOwn is_own is_of files old → AtEachMoment (HasOwn is_own is_of files) old new
  pub killed : (is_own : (records report : List ℕ) → Bool)
      → AreFileNames input files → IsOwnOfFile input asked.options is_own old
      → HasReport is_own files old → AtEachMoment (HasReport is_own files) old new
  pub outcome : AreFileNames input files → IfOk end.outcome (λ outcome. IsOutcomeThere asked (paths_of input files) outcome old new)
  pub stamp : end.left ≡ left.Stamp → AreFileNames input files → ShowsAllLeft was_left input files old
      → AwaitsStamp input files asked.options old new
  pub waits : end.left ≡ left.Stamp → AreFileNames input files → WaitsForStamp input files asked.options old new
  pub leaves : IsOk end.outcome → failures new ≡ failures old → AreFileNames input files → ShowsDay files old → ShowsDay files new
  pub rest : end.left ≡ left.Nothing → IfOk end.outcome IsUndone → AreFileNames input files → SeesNoneBeside files old → SeesNoneBeside files new
  pub unstored : end.is_stored ≡ false → failures old < failures new
  pub changes : ChangesFiles (day_paths files) old new

-- A day is looked at, and nothing is changed: whether an earlier walk left it.
pub record LooksForSame (paths : DayPaths) (asked : DayOptions) (result : Result (Option Repacked) AllocError) (old new : List Step) : Type 0 where
  pub changes : ChangesFiles [] old new
  pub same : IfOk result (λ found. IfSome found (λ repacked. IsSameThere asked paths repacked old))
