-- What is asked of the samples that an earlier walk left of a day.
use Rattle.std.specs.Prelude.{◌≡◌, ◌<◌, ◌≤◌, ◌⊎◌, ℕ, ⊤, IsTrue, List, [], Option, None, Some, Result, Ok, Err}
use Rattle.msr_devices.specs.Device.{Device, HasLeft}
use Rattle.msr_folders.specs.Totals.{saturated}
use Rattle.msr_naming.specs.declared.files.DayFiles.{DayFiles}
use Rattle.msr_options.specs.declared.days.DayOptions.{DayOptions}
use Rattle.msr_options.specs.declared.hint.Side.TheVariants.{Report as OfReport}
use Rattle.msr_options.specs.declared.hint.Unopened.{Unopened}
use Rattle.msr_report.specs.declared.report.Report.{Report}
use Rattle.msr_report_reader.specs.Reading.{IsReadFrom}
use Rattle.msr_tool.specs.declared.fault.ToolFault.{ToolFault}
use Rattle.msr_tree.specs.Folders.{ChangesFiles}
use Rattle.msr_tree.specs.Steps.{Path, Step, failures}
use Rattle.msr_making.specs.Day.{IsReadOrMemory, samples_of_lines}
use Rattle.msr_making.specs.Looking.{IsDayLook}
use Rattle.msr_making.specs.Places.{DayPaths, paths_of}
use Rattle.msr_making.specs.Told.{LeavesSamples}
use Rattle.msr_making.specs.declared.answer.DayFault.{DayFault}
use Rattle.msr_making.specs.declared.answer.DayFault.TheVariants.{CannotOpen, Larger, Shrunk, Tool}
use Rattle.msr_making.specs.declared.answer.Repacked.{Repacked}
use Rattle.msr_making.specs.declared.answer.Stop.{Stop}
use Rattle.msr_making.specs.declared.answer.Stop.TheVariants.{Memory, Refused}
use Rattle.msr_making.specs.declared.looks.DayLook.{DayLook}
use Rattle.msr_making.specs.declared.looks.Sight.TheVariants.{Unknown}

-- reading the report failed, or memory was refused for it
abbrev pub IsReportUnread : DayFault → Type 0
IsReportUnread (Tool fault) = IsReadOrMemory fault
IsReportUnread why = ⊥

-- what is told of the report whose text this is, if it is that of one
abbrev pub TellsSamples : List ℕ → Result (Option ℕ) Stop → Type 0
TellsSamples text (Ok (Some samples)) = (report : Report) × IsReadFrom report text × (samples ≡ saturated (samples_of_lines report.segments.items))
TellsSamples text (Ok None) = (report : Report) → ¬ (IsReadFrom report text)
TellsSamples text (Err (Refused why)) = IsReportUnread why
TellsSamples text (Err Memory) = ⊥

-- the same of the text that a source has
pub record ReadsSamples (source : Device) (result : Result (Option ℕ) Stop) : Type 0 where
  pub text : List ℕ
  pub left : HasLeft source text
  pub tells : TellsSamples text result

-- a call failed, or memory was refused
abbrev pub IsStopOfReading : Stop → Type 0
IsStopOfReading (Refused (CannotOpen unopened)) = ⊤
IsStopOfReading (Refused why) = IsReportUnread why
IsStopOfReading Memory = ⊤

-- what is told of the samples that an earlier walk left, if they are asked for
abbrev pub IsToldLeft : DayPaths → DayLook → DayOptions → Result (Option ℕ) Stop → (old new : List Step) → Type 0
IsToldLeft paths look asked (Ok (Some was)) old new = LeavesSamples paths was old
IsToldLeft paths look asked (Ok None) old new =
    IsTrue asked.keep_old → (look.records ≡ Unknown → ⊥) → (look.report ≡ Unknown → ⊥) → (was : ℕ) → ¬ (LeavesSamples paths was old)
IsToldLeft paths look asked (Err (Refused (CannotOpen unopened))) old new = (unopened.side ≡ OfReport) × (failures old < failures new)
IsToldLeft paths look asked (Err (Refused why)) old new = Unit {0}
IsToldLeft paths look asked (Err Memory) old new = Unit {0}

-- No name is changed.
pub record AsksForLeft (files : DayFiles) (look : DayLook) (asked : DayOptions) (result : Result (Option ℕ) Stop) (old new : List Step) : Type 0 where
  pub changes : ChangesFiles [] old new
  pub said : (input : Path) → IsDayLook (paths_of input files) look old → IsToldLeft (paths_of input files) look asked result old new

-- the day has no fewer samples than an earlier walk left, as far as a look told what that is
abbrev pub IsNoFewer : DayPaths → DayLook → DayOptions → Repacked → List Step → Type 0
IsNoFewer paths look asked repacked past = IsTrue asked.keep_old → (look.records ≡ Unknown → ⊥) → (look.report ≡ Unknown → ⊥)
    → (was : ℕ) → LeavesSamples paths was past → was ≤ repacked.samples

-- It has fewer.
pub record IsFewer (paths : DayPaths) (asked : DayOptions) (repacked : Repacked) (result : Result Repacked Stop) (past : List Step) : Type 0 where
  pub was : ℕ
  pub keep_old : IsTrue asked.keep_old
  pub left : LeavesSamples paths was past
  pub fewer : repacked.samples < was
  pub told : result ≡ Err (Refused (Shrunk (record { was = was; is = repacked.samples })))

-- Or that could not be told.
pub record IsSamplesUntold (result : Result Repacked Stop) (old new : List Step) : Type 0 where
  pub stop : Stop
  pub told : result ≡ Err stop
  pub why : (stop ≡ Memory) ⊎ (((fault : ToolFault) × (stop ≡ Refused (Tool fault)) × IsReadOrMemory fault) ⊎ ((unopened : Unopened) × (stop ≡ Refused (CannotOpen unopened)) × (failures old < failures new)))

-- what a day with these counts is held against
abbrev pub HeldFor : DayPaths → DayLook → DayOptions → Repacked → (written result : Result Repacked Stop) → (old new : List Step) → Type 0
HeldFor paths look asked repacked written result old new =
    ((result ≡ written) × IsNoFewer paths look asked repacked old) ⊎ (IsFewer paths asked repacked result old ⊎ IsSamplesUntold result old new)

-- the counts of a day that was repacked
abbrev pub counts_repacked : Result Repacked Stop → Option Repacked
counts_repacked (Ok repacked) = Some repacked
counts_repacked (Err (Refused (Larger repacked))) = Some repacked
counts_repacked (Err stop) = None

-- what was written of a day is told again, unless it has fewer samples
abbrev pub HeldAgainst : DayPaths → DayLook → DayOptions → (counts : Option Repacked) → (written result : Result Repacked Stop) → (old new : List Step) → Type 0
HeldAgainst paths look asked (Some repacked) written result old new = HeldFor paths look asked repacked written result old new
HeldAgainst paths look asked None written result old new = result ≡ written

pub record HoldsAgainst (files : DayFiles) (look : DayLook) (asked : DayOptions) (written result : Result Repacked Stop) (old new : List Step) : Type 0 where
  pub changes : ChangesFiles [] old new
  pub said : (input : Path) → IsDayLook (paths_of input files) look old → HeldAgainst (paths_of input files) look asked (counts_repacked written) written result old new
