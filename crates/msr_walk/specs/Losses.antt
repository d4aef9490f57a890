-- What a loss of power leaves of the days of an archive.
use Rattle.std.specs.Prelude.{◌≡◌, ℕ, Bool, true, List}
use Rattle.msr_folders.specs.Days.{IsDay}
use Rattle.msr_folders.specs.Within.{ChangesWithin}
use Rattle.msr_making.specs.Making.{IsStampOfFile}
use Rattle.msr_naming.specs.Promise.{HasOwn, ShowsDay}
use Rattle.msr_options.specs.declared.days.DayOptions.{DayOptions}
use Rattle.msr_options.specs.declared.task.Archiving.{Archiving}
use Rattle.msr_outcomes.specs.Outcomes.{IsForDay}
use Rattle.msr_tree.specs.Steps.{AtEachMoment, Path, Step, failures}
use Rattle.msr_walk.specs.Files.{DayNames, HaveNames, LeavesMade, StaysMade, files_of}
use Rattle.msr_walk.specs.Kills.{IsOwnOfDay, KeepsReports, day_names_in}

-- The stamp of a day's file is of the records and the report of a repack of what it has, in each length that may be asked for.
pub record IsStampOfDay (days : DayOptions) (input : Path) (is_of : (stamp records report : List ℕ) → Bool) (past : List Step) : Type 0 where
  pub of : (asked : DayOptions) → IsForDay days asked → IsStampOfFile input asked.options is_of past

-- A day that has its own has it at each moment since, also if the power is cut then, if what is not seen of it cannot come
-- back. If the walk goes on, that is so again.
pub record KeepsDay (goes_on : Bool) (days : DayOptions) (names : DayNames) (old new : List Step) : Type 0 where
  pub safe : (number : ℕ) (is_own : (records report : List ℕ) → Bool) (is_of : (stamp records report : List ℕ) → Bool)
      → IsOwnOfDay days names.input is_own old → IsStampOfDay days names.input is_of old → ShowsDay (files_of names number) old
      → HasOwn is_own is_of (files_of names number) old → AtEachMoment (HasOwn is_own is_of (files_of names number)) old new
  pub shows : goes_on ≡ true → (number : ℕ) → ShowsDay (files_of names number) old → ShowsDay (files_of names number) new

-- The same of all days of an archive, if no call failed: where a folder could not be stored nothing is promised.
pub record KeepsDays (goes_on : Bool) (archive : Archiving) (old new : List Step) : Type 0 where
  pub each : failures new ≡ failures old → HaveNames archive.folders.out.now archive.folders.reports.now → (path : Path) → IsDay path
      → KeepsDay goes_on archive.days (day_names_in archive path) old new

-- Only what stands within the folders of records and reports is changed, and all days keep their own.
pub record ChangesDays (goes_on : Bool) (archive : Archiving) (old new : List Step) : Type 0 where
  pub within : ChangesWithin archive.folders.out.now archive.folders.reports.now old new
  pub reports : KeepsReports archive old new
  pub safe : KeepsDays goes_on archive old new

-- What is done between visits: what was made of each day stays.
pub record RestsDays (archive : Archiving) (old new : List Step) : Type 0 where
  pub does : ChangesDays true archive old new
  pub leaves : LeavesMade archive.folders.root.now archive.folders.out.now archive.folders.reports.now (λ path. ⊥) old new

-- A day that has its own keeps it whatever may come back of it; and what cannot come back still cannot. What was made of it
-- is as it was.
pub record SettlesDay (days : DayOptions) (names : DayNames) (old new : List Step) : Type 0 where
  pub safe : (number : ℕ) (is_own : (records report : List ℕ) → Bool) (is_of : (stamp records report : List ℕ) → Bool)
      → IsOwnOfDay days names.input is_own old → IsStampOfDay days names.input is_of old
      → HasOwn is_own is_of (files_of names number) old → AtEachMoment (HasOwn is_own is_of (files_of names number)) old new
  pub shows : (number : ℕ) → ShowsDay (files_of names number) old → ShowsDay (files_of names number) new
  pub stays : StaysMade names old new

-- The same of all days of an archive, also after a day that stopped the walk.
pub record SettlesDays (archive : Archiving) (old new : List Step) : Type 0 where
  pub within : ChangesWithin archive.folders.out.now archive.folders.reports.now old new
  pub reports : KeepsReports archive old new
  pub safe : HaveNames archive.folders.out.now archive.folders.reports.now → (path : Path) → IsDay path
      → SettlesDay archive.days (day_names_in archive path) old new
