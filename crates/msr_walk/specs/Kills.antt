-- What a kill leaves of the days of an archive.
use Rattle.std.specs.Prelude.{ℕ, Bool, List}
use Rattle.msr_folders.specs.Days.{IsDay}
use Rattle.msr_making.specs.Making.{IsOwnOfFile}
use Rattle.msr_naming.specs.Promise.{HasReport}
use Rattle.msr_options.specs.declared.days.DayOptions.{DayOptions}
use Rattle.msr_options.specs.declared.task.Archiving.{Archiving}
use Rattle.msr_outcomes.specs.Outcomes.{IsForDay}
use Rattle.msr_tree.specs.Steps.{AtEachMoment, Path, Step}
use Rattle.msr_walk.specs.Files.{DayNames, HaveNames, day_names, files_of}

-- The report of a repack of what a day's file has is that of its records, in each length that may be asked for.
pub record IsOwnOfDay (days : DayOptions) (input : Path) (is_own : (records report : List ℕ) → Bool) (past : List Step) : Type 0 where
  pub own : (asked : DayOptions) → IsForDay days asked → IsOwnOfFile input asked.options is_own past

-- Where the records of a day have their own report, they have it at each moment since, also if the walk is killed then.
pub record KeepsReport (days : DayOptions) (names : DayNames) (old new : List Step) : Type 0 where
  pub each : (number : ℕ) (is_own : (records report : List ℕ) → Bool) → IsOwnOfDay days names.input is_own old
      → HasReport is_own (files_of names number) old → AtEachMoment (HasReport is_own (files_of names number)) old new

-- the names of the day of an archive that has this path
abbrev pub day_names_in : Archiving → Path → DayNames
day_names_in archive path = day_names archive.folders.root.now archive.folders.out.now archive.folders.reports.now path

-- The same of all days of an archive.
pub record KeepsReports (archive : Archiving) (old new : List Step) : Type 0 where
  pub each : HaveNames archive.folders.out.now archive.folders.reports.now → (path : Path) → IsDay path
      → KeepsReport archive.days (day_names_in archive path) old new
