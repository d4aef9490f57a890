-- The names of a day's files, and the steps by which they are given.
use Rattle.std.specs.Prelude.{◌<◌, ◌≡◌, ◌≤◌, ◌⊎◌, ◌==◌, ℕ, Bool, true, false, List, [], ◌∷◌, ◌++◌, length, reverse, take, bytes_eq, Result, Ok, Err, OnOk, IsErrOf}
use Rattle.msr_tree.specs.Steps.{Failed, FolderStored, Path, Removed, Renamed, Step, failures, folder_above, stands_in}
use Rattle.msr_tree.specs.declared.tree.TreeFault.{TreeFault}
use Rattle.msr_tree.specs.declared.tree.TreeFault.TheVariants as fault
use Rattle.msr_naming.specs.declared.files.DayFiles.{DayFiles}
use Rattle.msr_naming.specs.declared.files.Name.{Name}
use Rattle.msr_naming.specs.declared.files.Name.TheVariants.{Records, RecordsPart, Report, ReportPart, Stamp, StampPart}
use Rattle.msr_naming.specs.declared.naming.Stopped.{Stopped}
use Rattle.msr_naming.specs.declared.naming.Act.{Act}
use Rattle.msr_naming.specs.declared.naming.Act.TheVariants.{Remove, Store, Rename}

abbrev pub name_path : DayFiles → Name → Path
name_path files Records = files.records.path
name_path files RecordsPart = files.records.part
name_path files Report = files.report.path
name_path files ReportPart = files.report.part
name_path files Stamp = files.stamp.path
name_path files StampPart = files.stamp.part

abbrev pub name_number : Name → ℕ
name_number Records = 0
name_number RecordsPart = 1
name_number Report = 2
name_number ReportPart = 3
name_number Stamp = 4
name_number StampPart = 5

abbrev pub is_name : Name → Name → Bool
is_name one other = name_number one == name_number other

-- the names of a day, with those beside them
abbrev pub day_paths : DayFiles → List Path
day_paths files = files.records.path ∷ files.records.part ∷ files.report.path ∷ files.report.part ∷ files.stamp.path ∷ files.stamp.part ∷ []

-- No two names of a day are the same, and the stamp stands in the report's folder.
pub record AreDayNames (files : DayFiles) : Type 0 where
  pub apart : (one other : Name) → is_name one other ≡ false → bytes_eq (name_path files one) (name_path files other) ≡ false
  pub beside : stands_in (folder_above files.report.path) files.stamp.path ≡ true

-- two days, or one: no name of the one is the other's
abbrev pub IsOther : (files other : DayFiles) → Type 0
IsOther files other = (one two : Name) → bytes_eq (name_path files one) (name_path other two) ≡ false

-- what is done with a name, or with the folder in which it stands
abbrev pub act_step : DayFiles → Act → Step
act_step files (Remove name) = Removed (name_path files name)
act_step files (Store name) = FolderStored (folder_above (name_path files name))
act_step files (Rename from to) = Renamed (name_path files from) (name_path files to)

-- the first of some steps were done, in order, and then perhaps a call failed
abbrev pub DoesSome : (steps old new : List Step) → Type 0
DoesSome steps old new = (n : ℕ) × (n ≤ length steps)
    × ((new ≡ reverse (take n steps) ++ old) ⊎ (new ≡ Failed ∷ reverse (take n steps) ++ old))

-- what is told without what could not be done
abbrev pub told : Result (Unit {0}) Stopped → Result (Unit {0}) TreeFault
told (Ok x) = Ok x
told (Err stopped) = Err stopped.fault

-- Steps are done in order, up to the first that fails.
pub record Performs (steps : List Step) (result : Result (Unit {0}) TreeFault) (old new : List Step) : Type 0 where
  pub some : DoesSome steps old new
  pub all : OnOk result (new ≡ reverse steps ++ old)
  pub cause : IsErrOf result fault.Failed → failures old < failures new
