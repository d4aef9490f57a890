-- What verifying what was written of a day tells.
use Rattle.std.specs.Prelude.{◌≡◌, ◌<◌, ◌⊎◌, ℕ, ⊤, IsTrue, List, [], Some, Result, Ok, Err}
use Rattle.msr_devices.specs.Device.{Device}
use Rattle.msr_options.specs.Choice.{Choice}
use Rattle.msr_options.specs.declared.days.DayOptions.{DayOptions}
use Rattle.msr_tree.specs.Calls.{Opens}
use Rattle.msr_tree.specs.Folders.{ChangesFiles}
use Rattle.msr_tree.specs.Steps.{Path, Step, failures, seen}
use Rattle.msr_naming.specs.declared.files.DayFiles.{DayFiles}
use Rattle.msr_making.specs.Day.{IsOtherData, RepackAnswers, VerifiedAnswers}
use Rattle.msr_making.specs.declared.answer.DayFault.TheVariants.{CannotOpen, Changed, Differs}
use Rattle.msr_making.specs.declared.answer.Stop.{Stop}
use Rattle.msr_making.specs.declared.answer.Stop.TheVariants.{Memory, Refused}

abbrev pub OpensAt : {R : Type 0} → Path → (R → Device) → (old new : List Step) → R → Type 0
OpensAt path device old new reader = Opens path old (device reader)

-- what it says of some file, records and report
abbrev pub WasVerifiedAs : Choice → Result (Unit {0}) Stop → Type 0
WasVerifiedAs choice (Ok x) = VerifiedAnswers choice (Ok x)
WasVerifiedAs choice (Err (Refused why)) = VerifiedAnswers choice (Err why)
WasVerifiedAs choice (Err Memory) = ⊤

-- what it says of these
abbrev pub VerifiedOf : Choice → (file records text : List ℕ) → Result (Unit {0}) Stop → Type 0
VerifiedOf choice file records text (Ok x) = RepackAnswers choice file records text (Ok x)
VerifiedOf choice file records text (Err (Refused (CannotOpen unopened))) = Unit {0}
VerifiedOf choice file records text (Err (Refused Changed)) = IsOtherData choice file records text
VerifiedOf choice file records text (Err (Refused why)) = RepackAnswers choice file records text (Err why)
VerifiedOf choice file records text (Err Memory) = Unit {0}

-- the same again, but that what differs may have been changed meanwhile, or memory was refused
abbrev pub IsSaidAgain : (said result : Result (Unit {0}) Stop) → Type 0
IsSaidAgain (Err (Refused Differs)) result = (result ≡ Err (Refused Differs)) ⊎ ((result ≡ Err (Refused Changed)) ⊎ (result ≡ Err Memory))
IsSaidAgain said result = result ≡ said

-- a file is not opened only if a call failed
abbrev pub FailsIfUnopened : Result (Unit {0}) Stop → (old new : List Step) → Type 0
FailsIfUnopened (Ok x) old new = Unit {0}
FailsIfUnopened (Err (Refused (CannotOpen unopened))) old new = failures old < failures new
FailsIfUnopened (Err (Refused why)) old new = Unit {0}
FailsIfUnopened (Err Memory) old new = Unit {0}

-- What stands beside the names of records and report is held against the day's own file.
pub record VerifiesParts (input : Path) (files : DayFiles) (choice : Choice) (result : Result (Unit {0}) Stop) (old new : List Step) : Type 0 where
  pub changes : ChangesFiles [] old new
  pub failed : FailsIfUnopened result old new
  pub said : (file records text : List ℕ) → seen old input ≡ Some file → seen old files.records.part ≡ Some records → seen old files.report.part ≡ Some text
      → VerifiedOf choice file records text result

-- if that is asked for
pub record VerifiesAsked (input : Path) (files : DayFiles) (asked : DayOptions) (result : Result (Unit {0}) Stop) (old new : List Step) : Type 0 where
  pub changes : ChangesFiles [] old new
  pub failed : FailsIfUnopened result old new
  pub said : (file records text : List ℕ) → seen old input ≡ Some file → seen old files.records.part ≡ Some records → seen old files.report.part ≡ Some text
      → IsTrue asked.check → VerifiedOf asked.options file records text result
