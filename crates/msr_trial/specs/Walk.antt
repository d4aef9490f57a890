-- What a dry run prints, and how it ends.
use Rattle.std.specs.Prelude.{◌≡◌, ◌+◌, ℕ, false, List, Result, Ok, Err}
use Rattle.msr_devices.specs.Device.{Device, Takes}
use Rattle.msr_devices.specs.declared.fault.DeviceFault.{DeviceFault}
use Rattle.msr_folders.specs.Entries.{AreEntriesOf, Visit}
use Rattle.msr_folders.specs.Found.{Finds}
use Rattle.msr_folders.specs.Visits.{IsWalk, IsWalkInPart, StopsTelling, TellsThese}
use Rattle.msr_folders.specs.Walks.{TellsWalk}
use Rattle.msr_folders.specs.declared.found.WalkFound.{WalkFound}
use Rattle.msr_options.specs.declared.days.DayOptions.{DayOptions}
use Rattle.msr_options.specs.declared.task.Trying.{Trying}
use Rattle.msr_outcomes.specs.Entries.{Entry, IsTally, counted, first_unopened, is_done, is_refused, is_young}
use Rattle.msr_outcomes.specs.Summary.{summary_by}
use Rattle.msr_outcomes.specs.declared.tally.Tally.{Tally}
use Rattle.msr_tool.specs.declared.fault.ToolFault.{ToolFault}
use Rattle.msr_tool.specs.declared.fault.ToolFault.TheVariants.{Write, Memory}
use Rattle.msr_tree.specs.Calls.{Goes}
use Rattle.msr_tree.specs.Reads.{OnlyReads}
use Rattle.msr_tree.specs.Steps.{Step}
use Rattle.msr_trial.specs.Entries.{IsArchiveTried, IsTrialOfVisit, IsTrialEntry}
use Rattle.msr_trial.specs.Lines.{IsTrialLine}
use Rattle.msr_trial.specs.declared.walk.Tried.{Tried}

-- these entries were told
abbrev pub TellsTrial : DayOptions → List Entry → Device → Device → Tally → Tally → Type 0
TellsTrial days = TellsThese (IsTrialEntry days) (IsTrialLine days) IsTally

-- the visits of an archive were told
abbrev pub TellsTrialOf : Trying → (before after : List Step → Type 0) (out0 out : Device) (tally0 tally : Tally) → Type 0
TellsTrialOf asked = TellsWalk (TellsTrial asked.days) (IsTrialOfVisit asked.root.now asked.days) OnlyReads OnlyReads (Unit {0}) asked.root.now
    (λ past new. AreEntriesOf past asked.root.now asked.below.items)

-- that was printed when the walk stopped
abbrev pub StopsTrial : DayOptions → Device → Device → DeviceFault → Type 0
StopsTrial days out0 out fault = StopsTelling (IsTrialEntry days) (IsTrialLine days) out0 out fault

-- a walk that came to its end tells whether an entry was refused, and if none was, whether there was a day, young or not
abbrev pub TrialFinds : List Entry → WalkFound → Type 0
TrialFinds entries found = Finds (counted is_refused entries) (counted is_done entries + counted is_young entries) found

-- It tells too what could not be opened of the first day that was refused for that.
pub record TellsTried (entries : List Entry) (tried : Tried) : Type 0 where
  pub end : TrialFinds entries tried.found
  pub first : tried.unopened ≡ first_unopened entries

-- the whole text was printed, or a prefix of it when the walk stopped, which no input and no source can make it do
abbrev pub TrialEnds : DayOptions → (printed : List ℕ) → Result Tried ToolFault → Type 0
TrialEnds days printed (Ok tried) = (entries : List Entry)
    × IsWalk (IsTrialEntry days) (IsTrialLine days) (summary_by days false) printed entries × TellsTried entries tried
TrialEnds days printed (Err Write) = IsWalkInPart (IsTrialEntry days) (IsTrialLine days) (summary_by days false) printed
TrialEnds days printed (Err Memory) = IsWalkInPart (IsTrialEntry days) (IsTrialLine days) (summary_by days false) printed
TrialEnds days printed (Err _) = ⊥

-- What a dry run printed, and how it ended.
pub record Tries (days : DayOptions) (out0 out : Device) (result : Result Tried ToolFault) : Type 0 where
  pub printed : List ℕ
  pub prints : Takes out0 out printed
  pub ends : TrialEnds days printed result

-- The whole text was printed: a line for each entry of the archive, in order, but for those that are left out, and then what
-- all of these sum up to.
pub record TriesTree (asked : Trying) (before after : List Step → Type 0) (out0 out : Device) (tried : Tried) : Type 0 where
  pub visits : List Visit
  pub entries : List Entry
  pub printed : List ℕ
  pub prints : Takes out0 out printed
  pub text : IsWalk (IsTrialEntry asked.days) (IsTrialLine asked.days) (summary_by asked.days false) printed entries
  pub tells : TellsTried entries tried
  pub goes : Goes before after (IsArchiveTried asked visits entries)
