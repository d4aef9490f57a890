-- What is done with a day that may be another's.
use Rattle.std.specs.Prelude.{◌≡◌, ℕ, List, ◌++◌}
use Rattle.msr_folders.specs.Entries.{StandsWithin}
use Rattle.msr_making.specs.declared.answer.DayFault.{DayFault}
use Rattle.msr_making.specs.declared.answer.DayFault.TheVariants.{CannotOpen, ClaimedByAnother}
use Rattle.msr_making.specs.declared.answer.DayOutcome.{DayOutcome}
use Rattle.msr_making.specs.declared.answer.DayOutcome.TheVariants.{Refused}
use Rattle.msr_naming.specs.declared.files.DayFiles.{DayFiles}
use Rattle.msr_options.specs.declared.hint.Side.TheVariants.{Records}
use Rattle.msr_options.specs.declared.hint.Unopened.{Unopened}
use Rattle.msr_tree.specs.Folders.{LeavesFolders}
use Rattle.msr_tree.specs.Steps.{IsNoneOf, Path, Spares, Step}
use Rattle.msr_walk.specs.Files.{DayNames, IsStampWithin, files_of}

-- The names of a day's files, and those beside them, are within the folders of records and reports.
pub record AreWithin (out reports : Path) (files : DayFiles) : Type 0 where
  pub records : StandsWithin out files.records.path
  pub records_part : StandsWithin out files.records.part
  pub report : StandsWithin reports files.report.path
  pub report_part : StandsWithin reports files.report.part
  pub stamp : IsStampWithin reports files

-- the same, whatever number the claim has
pub record AreNamesWithin (out reports : Path) (names : DayNames) : Type 0 where
  pub are : (number : ℕ) → AreWithin out reports (files_of names number)

-- Only these names of a day lead elsewhere, whatever number its claims have, and no folder is made.
pub record ChangesNames (some : DayFiles → List Path) (names : DayNames) (old new : List Step) : Type 0 where
  pub made : List Step
  pub since : new ≡ made ++ old
  pub spares : (name : Path) → ((number : ℕ) → IsNoneOf name (some (files_of names number))) → Spares name made
  pub leaves : LeavesFolders old new

-- an outcome but for why something could not be opened
abbrev pub IsSameBut : (outcome told : DayOutcome) → Type 0
IsSameBut (Refused (CannotOpen unopened)) told = (other : Unopened) × (other.side ≡ unopened.side) × (told ≡ Refused (CannotOpen other))
IsSameBut outcome told = told ≡ outcome

-- a fault of a day that is not claimed
abbrev pub IsUnclaimed : DayFault → Type 0
IsUnclaimed (CannotOpen unopened) = unopened.side ≡ Records
IsUnclaimed ClaimedByAnother = Unit {0}
IsUnclaimed _ = ⊥
