-- Where the files of a day stand.
use Rattle.std.specs.Prelude.{◌≡◌, ◌⊎◌, false, Bool, List, None}
use Rattle.msr_tree.specs.Calls.{AreOneFile}
use Rattle.msr_tree.specs.Steps.{IsNoneOf, Path, Step, seen}
use Rattle.msr_naming.specs.Naming.{AreDayNames, day_paths}
use Rattle.msr_naming.specs.Promise.{IsFree, ShowsDay}
use Rattle.msr_naming.specs.declared.files.DayFiles.{DayFiles}
use Rattle.msr_making.specs.declared.places.Places.{Places}

-- the day's own file, and those that are made of it
pub record DayPaths : Type 0 where
  pub input : Path
  pub records : Path
  pub report : Path
  pub stamp : Path

abbrev pub paths_at : Places → DayPaths
paths_at places = record { input = places.input.now; records = places.records.now; report = places.report.now; stamp = places.stamp.now }

abbrev pub paths_of : Path → DayFiles → DayPaths
paths_of input files = record { input = input; records = files.records.path; report = files.report.path; stamp = files.stamp.path }

-- The names of a day are apart, and that of its own file is none of them.
pub record AreFileNames (input : Path) (files : DayFiles) : Type 0 where
  pub names : AreDayNames files
  pub own : IsNoneOf input (day_paths files)

-- nothing is seen of what is made of a day
abbrev pub IsUnseen : DayPaths → List Step → Type 0
IsUnseen paths past = (seen past paths.records ≡ None) × (seen past paths.report ≡ None) × (seen past paths.stamp ≡ None)

-- Unless a walk was killed that had the day, a crash leaves nothing of it if nothing is seen of it.
pub record ShowsAllLeft (was_left : Bool) (input : Path) (files : DayFiles) (past : List Step) : Type 0 where
  pub free : was_left ≡ false → IsUnseen (paths_of input files) past → IsFree files past

-- so of a day of which nothing can come back that is not seen
pub shows_all : (was_left : Bool) (input : Path) (files : DayFiles) (past : List Step) → ShowsDay files past → ShowsAllLeft was_left input files past
shows_all was_left input files past shows = record { free = λ not unseen. shows.free unseen }

-- the day's own file is one of those that are made
abbrev pub IsOneOfMade : DayPaths → List Step → Type 0
IsOneOfMade paths past = AreOneFile paths.input paths.records past ⊎ AreOneFile paths.input paths.report past ⊎ AreOneFile paths.input paths.stamp past
