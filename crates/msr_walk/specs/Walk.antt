-- What a walk prints, and how it ends.
use Rattle.std.specs.Prelude.{◌≡◌, ℕ, ◌+◌, List, Result, Ok, Err}
use Rattle.msr_devices.specs.Device.{Device, Takes}
use Rattle.msr_devices.specs.declared.fault.DeviceFault.{DeviceFault}
use Rattle.msr_folders.specs.Found.{Finds}
use Rattle.msr_folders.specs.Visits.{IsWalk, IsWalkInPart, StopsTelling, TellsMore}
use Rattle.msr_folders.specs.declared.found.WalkFound.{WalkFound}
use Rattle.msr_tool.specs.declared.fault.ToolFault.{ToolFault}
use Rattle.msr_tool.specs.declared.fault.ToolFault.TheVariants.{Write, Memory}
use Rattle.msr_options.specs.declared.task.Archiving.{Archiving}
use Rattle.msr_outcomes.specs.Entries.{Entry, IsTally, counted, first_unopened, is_done, is_known, is_larger, is_refused, is_young}
use Rattle.msr_outcomes.specs.Known.{IsEntry}
use Rattle.msr_outcomes.specs.Lines.{IsEntryLine}
use Rattle.msr_outcomes.specs.Summary.{summary}
use Rattle.msr_walk.specs.declared.folders.Walked.{Walked}
use Rattle.msr_outcomes.specs.declared.tally.Tally.{Tally}

-- some more entries were told: their lines were printed, and they are counted
abbrev pub TellsOutcomes : Archiving → Device → Device → Tally → Tally → Type 0
TellsOutcomes asked out0 out tally0 tally =
    TellsMore (IsEntry asked) (IsEntryLine asked) IsTally out0 out tally0 tally

-- that was printed when the walk stopped
abbrev pub StopsTellingOutcomes : Archiving → Device → Device → DeviceFault → Type 0
StopsTellingOutcomes asked out0 out fault = StopsTelling (IsEntry asked) (IsEntryLine asked) out0 out fault

-- a walk that came to its end tells whether an entry was refused, and if none was, whether there was a day, young or not, or
-- something known
abbrev pub TellsEnd : List Entry → WalkFound → Type 0
TellsEnd entries found = Finds (counted is_refused entries)
    (counted is_done entries + counted is_larger entries + counted is_young entries + counted is_known entries) found

-- It tells too what could not be opened of the first day that was refused for that.
pub record TellsWalked (entries : List Entry) (walked : Walked) : Type 0 where
  pub end : TellsEnd entries walked.found
  pub first : walked.unopened ≡ first_unopened entries

-- the whole text was printed, or a prefix of it when the walk stopped, which no input and no source can make it do
abbrev pub WalkEnds : Archiving → (printed : List ℕ) → Result Walked ToolFault → Type 0
WalkEnds asked printed (Ok walked) = (entries : List Entry)
    × IsWalk (IsEntry asked) (IsEntryLine asked) (summary asked) printed entries × TellsWalked entries walked
WalkEnds asked printed (Err Write) = IsWalkInPart (IsEntry asked) (IsEntryLine asked) (summary asked) printed
WalkEnds asked printed (Err Memory) = IsWalkInPart (IsEntry asked) (IsEntryLine asked) (summary asked) printed
WalkEnds asked printed (Err _) = ⊥

-- What a walk printed, and how it ended.
pub record Walks (asked : Archiving) (out0 out : Device) (result : Result Walked ToolFault) : Type 0 where
  pub printed : List ℕ
  pub prints : Takes out0 out printed
  pub ends : WalkEnds asked printed result
