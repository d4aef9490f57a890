-- What a walk prints, and how it ends.
use Rattle.std.specs.Prelude.{ℕ, Bool, List, Option, Result, Ok, Err, IfOk, String}
use Rattle.msr_devices.specs.Device.{Device, IsCalm, Takes}
use Rattle.msr_devices.specs.declared.fault.DeviceFault.{DeviceFault}
use Rattle.msr_folders.specs.Found.{Finds}
use Rattle.msr_folders.specs.Visits.{IsWalk, IsWalkInPart, StopsTelling, TellsMore}
use Rattle.msr_folders.specs.declared.found.WalkFound.{WalkFound}
use Rattle.msr_replace.specs.Entries.{ExchangeEntry, IsExchangeEntry, IsExchangeEntryLine, IsStoppedAt, IsExchangeTally, exchange_count}
use Rattle.msr_replace.specs.Lines.{IsExchangeLine}
use Rattle.msr_replace.specs.Sums.{exchange_summary}
use Rattle.msr_replace.specs.Words.{is_unwell, is_well}
use Rattle.msr_replace.specs.declared.lines.Outcome.{Outcome}
use Rattle.msr_replace.specs.declared.progress.Progress.{Progress}

-- The line of an entry was printed.
pub record Prints (path : List ℕ) (outcome : Outcome) (out0 out : Device) : Type 0 where
  pub line : List ℕ
  pub is_line : IsExchangeLine path outcome line
  pub takes : Takes out0 out line
  pub calm : IsCalm out0 out

-- What a walk has come to by these entries.
pub record HasCome (entries : List ExchangeEntry) (progress : Progress) : Type 0 where
  pub counted : IsExchangeTally entries progress.tally
  pub stopped : IsStoppedAt entries progress.failed

-- some more entries were told: their lines were printed, and they are counted
abbrev pub TellsExchanges : Device → Device → Progress → Progress → Type 0
TellsExchanges out0 out old new = TellsMore IsExchangeEntry IsExchangeEntryLine HasCome out0 out old new

-- that was printed when the walk stopped
abbrev pub StopsTellingExchanges : Device → Device → DeviceFault → Type 0
StopsTellingExchanges out0 out fault = StopsTelling IsExchangeEntry IsExchangeEntryLine out0 out fault

-- a walk that came to its end tells whether one of its entries is to be looked at, and if none is, whether there is a day
abbrev pub TellsFound : List ExchangeEntry → WalkFound → Type 0
TellsFound entries found = Finds (exchange_count is_unwell entries) (exchange_count is_well entries) found

-- the whole text was printed, or a prefix of it when the walk stopped
abbrev pub ReplacingEnds : (undo : Bool) → (printed : List ℕ) → Result WalkFound DeviceFault → Type 0
ReplacingEnds undo printed (Ok found) =
    (entries : List ExchangeEntry) × IsWalk IsExchangeEntry IsExchangeEntryLine (exchange_summary undo) printed entries × TellsFound entries found
ReplacingEnds undo printed (Err fault) = IsWalkInPart IsExchangeEntry IsExchangeEntryLine (exchange_summary undo) printed

-- the text of a walk in which no entry failed, or the last one did, with this path
abbrev pub TellsFailed : {Z : Type 0} → (undo : Bool) → (printed : List ℕ) → Option (String Z) → Type 0
TellsFailed undo printed failed =
    (entries : List ExchangeEntry) × IsWalk IsExchangeEntry IsExchangeEntryLine (exchange_summary undo) printed entries × IsStoppedAt entries failed

-- What replacing the days of an archive printed, or undoing it, and how it ended.
pub record ReplacesDays {Z : Type 0} (undo : Bool) (out0 out : Device) (failed : Option (String Z))
    (result : Result WalkFound DeviceFault) : Type 0 where
  pub printed : List ℕ
  pub prints : Takes out0 out printed
  pub ends : ReplacingEnds undo printed result
  pub failing : IfOk result (λ found. TellsFailed undo printed failed)
