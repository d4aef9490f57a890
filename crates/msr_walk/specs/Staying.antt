-- What was told of days stays so to the end of the walk.
use Rattle.std.specs.Prelude.{◌≡◌, ◌≢◌, List, [], ◌∷◌, ◌++◌}
use Rattle.msr_folders.specs.Days.{IsDay}
use Rattle.msr_folders.specs.Entries.{Entry as Found, Left, Passed, Visit, WithoutList}
use Rattle.msr_folders.specs.Names.{day_name}
use Rattle.msr_folders.specs.Within.{ChangesWithin}
use Rattle.msr_options.specs.Days.{with_name}
use Rattle.msr_options.specs.declared.task.Archiving.{Archiving}
use Rattle.msr_outcomes.specs.Entries.{Entry}
use Rattle.msr_outcomes.specs.Known.{known_as}
use Rattle.msr_outcomes.specs.declared.outcome.Outcome.{Outcome}
use Rattle.msr_sds.specs.SdsPath.{ReadsAsDay, SdsPath}
use Rattle.msr_tree.specs.Steps.{Path, Step}
use Rattle.msr_tree.specs.declared.kind.FileKind.{FileKind}
use Rattle.msr_tree.specs.declared.kind.FileKind.TheVariants.{Gone}
use Rattle.msr_walk.specs.Files.{HaveNames, StaysMade}
use Rattle.msr_walk.specs.Kills.{day_names_in}
use Rattle.msr_walk.specs.Told.{IsArchiveTold, IsDayTold}

-- none of these visits is of the entry with that path
abbrev pub AreOfOthers : Path → List Visit → Type 0
AreOfOthers path [] = Unit {0}
AreOfOthers path (Found other kind ∷ visits) = (path ≢ other) × AreOfOthers path visits
AreOfOthers path (WithoutList folder ∷ visits) = AreOfOthers path visits
AreOfOthers path (Passed folder ∷ visits) = AreOfOthers path visits
AreOfOthers path (Left folder ∷ visits) = AreOfOthers path visits

-- An entry tells the outcome of a day, and it was so from a moment of the walk to its end. Until then and from then on only
-- what stands within the folders of records and reports was changed.
pub record StaysTold (archive : Archiving) (path : Path) (entries : List Entry) (old new : List Step) : Type 0 where
  pub before : List Entry
  pub entry : Entry
  pub after : List Entry
  pub among : entries ≡ before ++ entry ∷ after
  pub of : entry.path ≡ path
  pub outcome : Outcome
  pub is : entry.outcome ≡ known_as archive.known path outcome
  pub name : SdsPath
  pub reads : ReadsAsDay path name
  pub from : List Step
  pub since : ChangesWithin archive.folders.out.now archive.folders.reports.now old from
  pub until : ChangesWithin archive.folders.out.now archive.folders.reports.now from new
  pub told : IsDayTold (with_name (day_name name) archive.days) (day_names_in archive path) archive.folders.out.now archive.folders.reports.now outcome from new

-- what was told of a day stays so to the end of the walk, if the day is not visited once more
abbrev pub ToldDayStays : Type 0
ToldDayStays = (archive : Archiving) (before after : List Visit) (path : Path) (kind : FileKind) (entries : List Entry) (old new : List Step)
    → IsArchiveTold archive (before ++ Found path kind ∷ after) entries old new
    → HaveNames archive.folders.out.now archive.folders.reports.now → kind ≢ Gone → IsDay path → AreOfOthers path after
    → StaysTold archive path entries old new

-- and what was made before of a day that is not visited stays
abbrev pub UnvisitedDayStays : Type 0
UnvisitedDayStays = (archive : Archiving) (visits : List Visit) (path : Path) (entries : List Entry) (old new : List Step)
    → IsArchiveTold archive visits entries old new
    → HaveNames archive.folders.out.now archive.folders.reports.now → IsDay path → AreOfOthers path visits
    → StaysMade (day_names_in archive path) old new
