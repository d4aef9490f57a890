-- What a look at the names of a day tells.
use Rattle.std.specs.Prelude.{◌≡◌, ◌≢◌, ◌<◌, ◌⊎◌, Bool, true, List, [], None, Some, IfOk, Result}
use Rattle.std.specs.declared.alloc.AllocError.{AllocError}
use Rattle.msr_tree.specs.Calls.{AreOneFile, Looks}
use Rattle.msr_tree.specs.Folders.{ChangesFiles}
use Rattle.msr_tree.specs.Steps.{Path, Step, failures, now}
use Rattle.msr_tree.specs.declared.facts.Facts.{Facts}
use Rattle.msr_tree.specs.declared.facts.Kind.TheVariants.{Regular}
use Rattle.msr_making.specs.Places.{DayPaths, IsOneOfMade}
use Rattle.msr_making.specs.declared.looks.DayFacts.{DayFacts}
use Rattle.msr_making.specs.declared.looks.DayLook.{DayLook}
use Rattle.msr_making.specs.declared.looks.Sight.{Sight}
use Rattle.msr_making.specs.declared.looks.Sight.TheVariants.{Found, Nothing, Unknown}

-- what it says of a name
abbrev pub IsSightAt : Path → List Step → Sight → Type 0
IsSightAt path past (Found facts) = Looks path past (Some facts)
IsSightAt path past Nothing = now past path ≡ None
IsSightAt path past Unknown = Unit {0}

-- a regular file was found
pub record IsRegular (sight : Sight) (facts : Facts) : Type 0 where
  pub found : sight ≡ Found facts
  pub regular : facts.kind ≡ Regular

-- and what else was found is none
abbrev pub IsIrregular : Sight → Type 0
IsIrregular sight = (facts : Facts) → sight ≡ Found facts → facts.kind ≢ Regular

-- of a day those that are looked at for what an earlier walk left
pub record AreRegular (look : DayLook) (facts : DayFacts) : Type 0 where
  pub input : IsRegular look.input facts.input

-- what is told of each name of a day
pub record IsDayLook (paths : DayPaths) (look : DayLook) (past : List Step) : Type 0 where
  pub input : IsSightAt paths.input past look.input
  pub records : IsSightAt paths.records past look.records
  pub report : IsSightAt paths.report past look.report
  pub stamp : IsSightAt paths.stamp past look.stamp

-- nothing was found of what is made of a day
abbrev pub IsUnfound : DayLook → Type 0
IsUnfound look = (look.records ≡ Nothing) × (look.report ≡ Nothing) × (look.stamp ≡ Nothing)

-- of one name nothing was told
abbrev pub HasUnknown : DayLook → Type 0
HasUnknown look = (look.input ≡ Unknown) ⊎ ((look.records ≡ Unknown) ⊎ ((look.report ≡ Unknown) ⊎ (look.stamp ≡ Unknown)))

-- What was told of the day's own file, and if that was found, of the records and the report.
pub record IsSightKnown (look : DayLook) : Type 0 where
  pub input : look.input ≡ Unknown → ⊥
  pub left : (facts : Facts) → look.input ≡ Found facts → (look.records ≡ Unknown → ⊥) × (look.report ≡ Unknown → ⊥)

-- what is told of each name of a day that is to be made
pub record IsLookedAt (paths : DayPaths) (look : DayLook) (past : List Step) : Type 0 where
  pub are : IsDayLook paths look past
  pub known : IsSightKnown look

-- Something is asked, and no name is changed.
pub record Asks {A : Type 0} (Said : (old new : List Step) → A → Type 0) (result : Result A AllocError) (old new : List Step) : Type 0 where
  pub changes : ChangesFiles [] old new
  pub said : IfOk result (λ answer. Said old new answer)

-- what was told, or a call failed
pub record SaysSight (path : Path) (old new : List Step) (sight : Sight) : Type 0 where
  pub is : IsSightAt path old sight
  pub failed : sight ≡ Unknown → failures old < failures new

abbrev pub SeesAt : Path → Result Sight AllocError → (old new : List Step) → Type 0
SeesAt path result old new = Asks (SaysSight path) result old new

pub record SaysDay (paths : DayPaths) (old new : List Step) (look : DayLook) : Type 0 where
  pub are : IsDayLook paths look old
  pub failed : HasUnknown look → failures old < failures new

abbrev pub FindsDay : DayPaths → Result DayLook AllocError → (old new : List Step) → Type 0
FindsDay paths result old new = Asks (SaysDay paths) result old new

-- the same where a stamp was looked at before
pub record SaysBeside (paths : DayPaths) (stamp : Sight) (old new : List Step) (look : DayLook) : Type 0 where
  pub are : IsSightAt paths.stamp old stamp → IsDayLook paths look old
  pub failed : HasUnknown look → (stamp ≡ Unknown) ⊎ (failures old < failures new)

abbrev pub FindsBeside : DayPaths → Sight → Result DayLook AllocError → (old new : List Step) → Type 0
FindsBeside paths stamp result old new = Asks (SaysBeside paths stamp) result old new

-- both names lead to one file, or a call failed
abbrev pub AsksForOne : (input path : Path) → Result Bool AllocError → (old new : List Step) → Type 0
AsksForOne input path result old new = Asks (λ sooner later answer. answer ≡ true → AreOneFile input path sooner ⊎ (failures sooner < failures later)) result old new

abbrev pub AsksForShared : DayPaths → Result Bool AllocError → (old new : List Step) → Type 0
AsksForShared paths result old new = Asks (λ sooner later answer. answer ≡ true → IsOneOfMade paths sooner ⊎ (failures sooner < failures later)) result old new
