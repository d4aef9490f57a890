-- The names of files.
use Rattle.std.specs.Prelude.{◌≡◌, ◌≢◌, ℕ, List, [], ◌∷◌, ◌++◌, codes}
use Rattle.std.specs.Fmt.{decimal}
use Rattle.msr_folders.specs.Days.{IsDay}
use Rattle.msr_folders.specs.Entries.{StandsWithin}
use Rattle.msr_folders.specs.Paths.{ended, joined}
use Rattle.msr_making.specs.Places.{AreFileNames, DayPaths}
use Rattle.msr_naming.specs.Files.{FileNames}
use Rattle.msr_naming.specs.declared.files.DayFiles.{DayFiles}
use Rattle.msr_tree.specs.Steps.{IsNoneOf, Path, Step, now}

-- the names of a new file that is written under the one with the ending
abbrev pub file_beside : (path ending : List ℕ) → FileNames
file_beside path ending = record { path = path; part = ended path ending }

-- those of a file that the walk makes whose claim has that number
abbrev pub new_file : (path : List ℕ) (number : ℕ) → FileNames
new_file path number = file_beside path (codes "." ++ (decimal number ++ codes ".part"))

-- the names of the files of a day
pub record DayNames : Type 0 where
  pub input : List ℕ
  pub records : List ℕ
  pub report : List ℕ
  pub stamp : List ℕ
  pub claim : List ℕ

-- the day with that path: its input in the archive, its records, its report and its stamp, and its claim
abbrev pub day_names : (root out reports path : List ℕ) → DayNames
day_names root out reports path = record {
  input = joined root path;
  records = joined out path;
  report = ended (joined reports path) (codes ".txt");
  stamp = ended (joined reports path) (codes ".from");
  claim = ended (joined out path) (codes ".claim");
}

-- the files that are made of a day by the walk whose claim has that number
abbrev pub files_of : DayNames → (number : ℕ) → DayFiles
files_of names number = record {
  records = new_file names.records number;
  report = new_file names.report number;
  stamp = new_file names.stamp number;
}

-- where the files of a day stand
abbrev pub paths_of_names : DayNames → DayPaths
paths_of_names names = record { input = names.input; records = names.records; report = names.report; stamp = names.stamp }

-- What was made of a day is as it was: its records and its report lead to what they led to.
pub record StaysMade (names : DayNames) (old new : List Step) : Type 0 where
  pub records : now new names.records ≡ now old names.records
  pub report : now new names.report ≡ now old names.report

-- The folders of records and reports have names. Below an empty one no path stands.
pub record HaveNames (out reports : Path) : Type 0 where
  pub out_some : out ≢ []
  pub reports_some : reports ≢ []

-- What was made of each day is as it was, but for the days of these paths, if the folders of records and reports have names.
pub record LeavesMade (root out reports : Path) (But : Path → Type 0) (old new : List Step) : Type 0 where
  pub each : HaveNames out reports → (path : Path) → IsDay path → ¬ (But path) → StaysMade (day_names root out reports path) old new

-- No two names of a day are the same, whatever number the claim has.
pub record AreNamesOfDay (names : DayNames) : Type 0 where
  pub are : (number : ℕ) → AreFileNames names.input (files_of names number)

-- A stamp and what stands beside its name are within the folder of the reports, and if that has a name, none is a report.
pub record IsStampWithin (reports : Path) (files : DayFiles) : Type 0 where
  pub path : StandsWithin reports files.stamp.path
  pub part : StandsWithin reports files.stamp.part
  pub apart : reports ≢ [] → (day : Path) → IsNoneOf (ended (joined reports day) (codes ".txt")) (files.stamp.path ∷ files.stamp.part ∷ [])
