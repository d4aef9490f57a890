-- Days that wait for their stamps to get their names.
use Rattle.std.specs.Prelude.{◌≡◌, ℕ, List, [], ◌∷◌, ◌++◌, map, reverse}
use Rattle.std.specs.List.{AllByRecursion}
use Rattle.msr_folders.specs.Days.{IsDay}
use Rattle.msr_folders.specs.Paths.{folder_of}
use Rattle.msr_making.specs.Making.{WaitsForStamp}
use Rattle.msr_naming.specs.Naming.{IsOther}
use Rattle.msr_naming.specs.Promise.{AreOthers, stamp_paths}
use Rattle.msr_naming.specs.declared.batch.Waiting.{Waiting}
use Rattle.msr_naming.specs.declared.files.DayFiles.{DayFiles}
use Rattle.msr_options.specs.declared.days.DayOptions.{DayOptions}
use Rattle.msr_options.specs.declared.task.Archiving.{Archiving}
use Rattle.msr_outcomes.specs.Outcomes.{IsForDay}
use Rattle.msr_folders.specs.Walks.{HoldsAt}
use Rattle.msr_tree.specs.Steps.{IsNoneOf, Path, Step}
use Rattle.msr_walk.specs.Files.{AreNamesOfDay, DayNames, HaveNames, files_of}
use Rattle.msr_walk.specs.Kills.{day_names_in}

-- The stamp of a day, of which this was asked, is on the disk beside its name; the names of its records and report lead to
-- those that it is of.
pub record AwaitsName (names : DayNames) (asked : DayOptions) (files : DayFiles) (past : List Step) : Type 0 where
  pub number : ℕ
  pub are : files ≡ files_of names number
  pub waits : AreNamesOfDay names → WaitsForStamp names.input files asked.options past past

-- These are the files of a day of an archive.
pub record AreOfDay (archive : Archiving) (files : DayFiles) : Type 0 where
  pub path : Path
  pub day : IsDay path
  pub number : ℕ
  pub are : files ≡ files_of (day_names_in archive path) number

-- The day with this path waits for its stamp to get its name.
pub record WaitsAs (archive : Archiving) (path : Path) (files : DayFiles) (past : List Step) : Type 0 where
  pub number : ℕ
  pub are : files ≡ files_of (day_names_in archive path) number
  pub asked : DayOptions
  pub for_day : IsForDay archive.days asked
  pub waits : HaveNames archive.folders.out.now archive.folders.reports.now → WaitsForStamp (day_names_in archive path).input files asked.options past past

-- A day of a folder waits.
pub record IsWaiting (archive : Archiving) (folder : Path) (files : DayFiles) (past : List Step) : Type 0 where
  pub path : Path
  pub day : IsDay path
  pub beside : folder_of path ≡ folder
  pub waits : WaitsAs archive path files past

-- no name of one of these days is another's
abbrev pub ShareNoNames : List DayFiles → Type 0
ShareNoNames [] = Unit {0}
ShareNoNames (files ∷ days) = AreOthers files days × ShareNoNames days

-- the files of days that wait
abbrev pub files_waiting : {C : Type 0} → List (Waiting C) → List DayFiles
files_waiting days = map (λ day. day.files) days

-- the names beside those of their stamps
abbrev pub parts_waiting : {C : Type 0} → List (Waiting C) → List Path
parts_waiting days = map (λ day. day.files.stamp.part) days

-- Days of a folder wait, each once.
pub record AreWaiting {C : Type 0} (archive : Archiving) (folder : Path) (days : List (Waiting C)) (past : List Step) : Type 0 where
  pub each : AllByRecursion (λ files. IsWaiting archive folder files past) (files_waiting days)
  pub apart : HaveNames archive.folders.out.now archive.folders.reports.now → ShareNoNames (files_waiting days)

-- whichever steps were done so far, they wait
abbrev pub AreWaitingAt : {C : Type 0} → (went : List Step → Type 0) → Archiving → Path → List (Waiting C) → Type 0
AreWaitingAt went archive folder days = HoldsAt went (AreWaiting archive folder days)

-- whichever steps were done so far, these are of days
abbrev pub AreOfDaysAt : {C : Type 0} → (went : List Step → Type 0) → Archiving → List (Waiting C) → Type 0
AreOfDaysAt went archive days = HoldsAt went (λ past. AllByRecursion (AreOfDay archive) (files_waiting days))

-- The day with this path is none of those that wait.
pub record IsNoneWaiting {C : Type 0} (archive : Archiving) (path : Path) (days : List (Waiting C)) : Type 0 where
  pub others : HaveNames archive.folders.out.now archive.folders.reports.now → (number : ℕ)
      → AllByRecursion (λ files. IsOther files (files_of (day_names_in archive path) number)) (files_waiting days)

-- A day that is taken from those that wait is the next that waits on, or it waits no more.
pub record TakenWaits {C : Type 0} (before after : List Step → Type 0) (archive : Archiving) (day : Waiting C) (ours0 ours : List (Waiting C)) : Type 0 where
  pub on : (folder : Path) (days : List (Waiting C)) → AreWaitingAt before archive folder (days ++ day ∷ reverse ours0)
      → AreWaitingAt after archive folder (days ++ reverse ours)

-- What is no name of the stamps of the first is none of those of the others.
pub record AreSome {C : Type 0} (days ours : List (Waiting C)) : Type 0 where
  pub fewer : (name : Path) → IsNoneOf name (stamp_paths (files_waiting days)) → IsNoneOf name (stamp_paths (files_waiting ours))

-- Of those that wait some wait on.
pub record SomeWait {C : Type 0} (before after : List Step → Type 0) (archive : Archiving) (days ours : List (Waiting C)) : Type 0 where
  pub on : (folder : Path) → AreWaitingAt before archive folder days → AreWaitingAt after archive folder ours
