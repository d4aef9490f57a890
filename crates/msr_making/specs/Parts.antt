-- Records and report of a day, beside their names.
use Rattle.std.specs.Prelude.{◌≡◌, ◌⊎◌, false, List, [], ◌∷◌, bytes_eq, Result, Ok, Err}
use Rattle.msr_devices.specs.Device.{Device}
use Rattle.msr_tree.specs.Steps.{Path, Step}
use Rattle.msr_tree.specs.declared.tree.TreeFault.{TreeFault}
use Rattle.msr_tree.specs.declared.tree.TreeFault.TheVariants as fault
use Rattle.msr_naming.specs.Making.{IsBegun, LeadsToTaken}
use Rattle.msr_naming.specs.declared.files.DayFiles.{DayFiles}
use Rattle.msr_options.specs.declared.hint.Side.{Side}
use Rattle.msr_options.specs.declared.hint.Side.TheVariants.{Records, Report as OfReport}
use Rattle.msr_making.specs.declared.answer.DayFault.TheVariants.{CannotOpen}
use Rattle.msr_making.specs.declared.answer.Stop.{Stop}
use Rattle.msr_making.specs.declared.answer.Stop.TheVariants.{Refused, Memory}
use Rattle.msr_making.specs.declared.parts.Parts.{Parts}

-- what a call of the tree told; where a day is refused for something else no call failed
abbrev pub call_fault : Stop → TreeFault
call_fault (Refused (CannotOpen unopened)) = fault.Failed
call_fault (Refused why) = fault.Memory
call_fault Memory = fault.Memory

abbrev pub called_told : {T : Type 0} → Result T Stop → Result T TreeFault
called_told (Ok x) = Ok x
called_told (Err stop) = Err (call_fault stop)

-- this of a day could not be opened or made, or memory was refused
abbrev pub IsUnopened : Side → Stop → Type 0
IsUnopened side (Refused (CannotOpen unopened)) = unopened.side ≡ side
IsUnopened side (Refused why) = ⊥
IsUnopened side Memory = Unit {0}

-- a file that is made
abbrev pub IsMadeSide : Side → Type 0
IsMadeSide side = (side ≡ Records) ⊎ (side ≡ OfReport)

-- one of these could not be made
abbrev pub IsUnmade : Stop → Type 0
IsUnmade stop = (side : Side) × IsMadeSide side × IsUnopened side stop

-- the names beside those of records and report
abbrev pub part_paths : DayFiles → List Path
part_paths files = files.records.part ∷ files.report.part ∷ []

-- these two are not one
abbrev pub ArePartsApart : DayFiles → Type 0
ArePartsApart files = bytes_eq files.records.part files.report.part ≡ false

abbrev pub AreBegun : {W : Type 0} → (W → Device) → (old new : List Step) → Parts W → Type 0
AreBegun device old new parts = IsBegun device old new parts.records × IsBegun device old new parts.report

abbrev pub AreFinished : DayFiles → (records report : Device) → (old new : List Step) → Unit {0} → Type 0
AreFinished files records report old new x = ArePartsApart files → LeadsToTaken files.records.part records new × LeadsToTaken files.report.part report new
