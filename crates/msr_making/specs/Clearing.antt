-- What is done where a day is refused.
use Rattle.std.specs.Prelude.{◌≡◌, ◌<◌, ◌⊎◌, ℕ, Bool, true, false, List, [], ◌∷◌, IfOk, IsOk, None, Result}
use Rattle.std.specs.declared.alloc.AllocError.{AllocError}
use Rattle.msr_tree.specs.Folders.{ChangesFiles}
use Rattle.msr_tree.specs.Steps.{AtEachMoment, Path, Step, failures, seen}
use Rattle.msr_naming.specs.Naming.{AreDayNames, day_paths}
use Rattle.msr_naming.specs.Promise.{HasOwn, HasReport, ShowsDay}
use Rattle.msr_naming.specs.declared.files.DayFiles.{DayFiles}
use Rattle.msr_options.specs.declared.days.DayOptions.{DayOptions}
use Rattle.msr_making.specs.Looking.{Asks}
use Rattle.msr_making.specs.Places.{DayPaths, IsUnseen}
use Rattle.msr_making.specs.Told.{AreUntouched, IsClearedThere, stays_for}
use Rattle.msr_making.specs.declared.answer.DayEnd.{DayEnd}
use Rattle.msr_making.specs.declared.answer.DayFault.{DayFault}
use Rattle.msr_making.specs.declared.answer.DayFault.TheVariants.{ClaimedByAnother}
use Rattle.msr_making.specs.declared.answer.DayOutcome.TheVariants.{Refused}
use Rattle.msr_making.specs.declared.answer.Left.TheVariants as left

-- the names beside those of a day
abbrev pub beside_paths : DayFiles → List Path
beside_paths files = files.records.part ∷ files.report.part ∷ files.stamp.part ∷ []

-- nothing is seen beside the names of a day
abbrev pub SeesNoneBeside : DayFiles → List Step → Type 0
SeesNoneBeside files past = (seen past files.records.part ≡ None) × (seen past files.report.part ≡ None) × (seen past files.stamp.part ≡ None)

-- What stands beside the names of a day is removed, and told as gone only if it is.
pub record SweepsDay (files : DayFiles) (is_swept : Bool) (old new : List Step) : Type 0 where
  pub changes : ChangesFiles (beside_paths files) old new
  pub gone : is_swept ≡ true → AreDayNames files → SeesNoneBeside files new

-- nothing is seen of what is made of a day
abbrev pub FindsNone : DayPaths → Result Bool AllocError → (old new : List Step) → Type 0
FindsNone paths result old new = Asks (λ sooner later answer. answer ≡ true → IsUnseen paths sooner) result old new

-- what is told of it
abbrev pub SaysEnd : DayFault → DayEnd → Type 0
SaysEnd why end = IfOk end.outcome (λ outcome. (outcome ≡ Refused ClaimedByAnother) ⊎ (outcome ≡ Refused why))

-- What was made of a day goes that is refused for that. If it has its own before, it has it at each moment since.
pub record GivesUp (paths : DayPaths) (files : DayFiles) (why : DayFault) (end : DayEnd) (old new : List Step) : Type 0 where
  pub safe : end.is_stored ≡ true → (is_own : (records report : List ℕ) → Bool) (is_of : (stamp records report : List ℕ) → Bool)
      → AreDayNames files → HasOwn is_own is_of files old → AtEachMoment (HasOwn is_own is_of files) old new
  pub killed : (is_own : (records report : List ℕ) → Bool) → AreDayNames files
      → HasReport is_own files old → AtEachMoment (HasReport is_own files) old new
  pub cleared : IfOk end.outcome (λ outcome. (outcome ≡ Refused why) × (AreDayNames files → IsClearedThere paths old new))
  pub unstamped : end.left ≡ left.Stamp → ⊥
  pub leaves : IsOk end.outcome → failures new ≡ failures old → AreDayNames files → ShowsDay files old → ShowsDay files new
  pub unstored : end.is_stored ≡ false → failures old < failures new
  pub changes : ChangesFiles (day_paths files) old new

-- what becomes of what was made of a day that is refused, whatever for: it stays, or goes, unless another walk has it
abbrev pub StaysOrGoes : (stays : Bool) → DayFault → DayPaths → (old new : List Step) → Type 0
StaysOrGoes true why paths old new = AreUntouched paths old new
StaysOrGoes false ClaimedByAnother paths old new = AreUntouched paths old new
StaysOrGoes false why paths old new = IsClearedThere paths old new

-- The same, unless what an earlier walk left is to stay, or another walk has the day.
pub record EndsRefused (paths : DayPaths) (files : DayFiles) (asked : DayOptions) (why : DayFault) (end : DayEnd) (old new : List Step) : Type 0 where
  pub safe : end.is_stored ≡ true → (is_own : (records report : List ℕ) → Bool) (is_of : (stamp records report : List ℕ) → Bool)
      → AreDayNames files → HasOwn is_own is_of files old → AtEachMoment (HasOwn is_own is_of files) old new
  pub killed : (is_own : (records report : List ℕ) → Bool) → AreDayNames files
      → HasReport is_own files old → AtEachMoment (HasReport is_own files) old new
  pub stays : IfOk end.outcome (λ outcome. ((outcome ≡ Refused ClaimedByAnother) × (AreDayNames files → AreUntouched paths old new))
      ⊎ ((outcome ≡ Refused why) × (AreDayNames files → StaysOrGoes (stays_for asked why) why paths old new)))
  pub unstamped : end.left ≡ left.Stamp → ⊥
  pub leaves : IsOk end.outcome → failures new ≡ failures old → AreDayNames files → ShowsDay files old → ShowsDay files new
  pub unstored : end.is_stored ≡ false → failures old < failures new
  pub changes : ChangesFiles (day_paths files) old new

-- It ends so, and what stands beside its names is removed: nothing is left only if that is gone, too.
pub record EndsSwept (paths : DayPaths) (files : DayFiles) (asked : DayOptions) (why : DayFault) (end : DayEnd) (old new : List Step) : Type 0 where
  pub ends : EndsRefused paths files asked why end old new
  pub rest : end.left ≡ left.Nothing → AreDayNames files → SeesNoneBeside files new
