-- Walks put together from the entries that were told.
use Rattle.std.proofs.Common.{◌↔◌, ◌+◌, ◌-◌, ◌^◌, min, ℕ, false, List, ◌++◌, arith, refl, subst, Ok, Err, IsErrOf}
use Rattle.msr_devices.specs.Device.{Device, HasFailed, Takes}
use Rattle.msr_devices.specs.declared.fault.DeviceFault.{DeviceFault}
use Rattle.msr_devices.specs.declared.fault.DeviceFault.TheVariants.{Failed, Memory}
use Rattle.msr_devices.proofs.Chaining.{steady_sound, takes_append}
use Rattle.msr_folders.proofs.WalkLemmas as walks
use Rattle.msr_folders.specs.Found.{Finds}
use Rattle.msr_folders.specs.Visits.{IsWalk, StopsAt, StopsPrefix, TellsMore}
use Rattle.msr_folders.specs.declared.found.WalkFound.{WalkFound}
use Rattle.msr_folders.specs.declared.found.WalkFound.TheVariants.{Well, Unwell, NoDay}
use Rattle.msr_options.specs.declared.days.DayOptions.{DayOptions}
use Rattle.msr_options.specs.declared.task.Trying.{Trying}
use Rattle.msr_outcomes.specs.Entries.{Entry, IsTally}
use Rattle.msr_outcomes.specs.Summary.{summary_by}
use Rattle.msr_outcomes.specs.declared.tally.Tally.{Tally}
use Rattle.msr_tool.specs.Fault.{fault_of_writing}
use Rattle.msr_tool.specs.declared.fault.ToolFault.TheVariants.{Write}
use Rattle.msr_tree.specs.Steps.{Step}
use Rattle.msr_trial.specs.Entries.{IsTrialEntry}
use Rattle.msr_trial.specs.Lines.{IsTrialLine}
use Rattle.msr_trial.specs.Walk.{StopsTrial, TellsTrialOf, TellsTried, TrialFinds, Tries, TriesTree}
use Rattle.msr_trial.specs.declared.walk.Tried.{Tried}

-- some more entries were told
abbrev pub TellsSome : DayOptions → Device → Device → Tally → Tally → Type 0
TellsSome days out0 out tally0 tally = TellsMore (IsTrialEntry days) (IsTrialLine days) IsTally out0 out tally0 tally

-- a prefix of the text of a walk was printed
abbrev pub WalksInPart : DayOptions → Device → Device → Type 0
WalksInPart days out0 out = walks.WalksInPart (IsTrialEntry days) (IsTrialLine days) (summary_by days false) out0 out

pub stops_entries : (days : DayOptions) (out0 out : Device) (fault : DeviceFault) → StopsTrial days out0 out fault
    → StopsAt (WalksInPart days out0 out) out0 out fault
stops_entries days = walks.stops_entries (IsTrialEntry days) (IsTrialLine days) (summary_by days false)

pub stops_summary : (days : DayOptions) (out0 out1 out : Device) (tally0 tally : Tally) (fault : DeviceFault)
    (told : TellsSome days out0 out1 tally0 tally) → StopsPrefix out1 out (summary_by days false told.entries) fault
    → StopsAt (WalksInPart days out0 out) out0 out fault
stops_summary days = walks.stops_summary (IsTrialEntry days) (IsTrialLine days) (summary_by days false) IsTally

pub walk_stops : (days : DayOptions) (out0 out : Device) (fault : DeviceFault)
    → StopsAt (WalksInPart days out0 out) out0 out fault → Tries days out0 out (Err (fault_of_writing fault))
walk_stops days out0 out Failed h = record { printed = h.0.printed; prints = h.0.prints; ends = h.0.walk }
walk_stops days out0 out Memory h = record { printed = h.0.printed; prints = h.0.prints; ends = h.0.walk }

-- the sink failed if that is told
pub stop_tells : (Part : Type 0) (out0 out : Device) (fault : DeviceFault) → StopsAt Part out0 out fault
    → IsErrOf {T = Tried} (Err (fault_of_writing fault)) Write ↔ HasFailed out0 out
stop_tells Part out0 out Failed h = ((λ e. h.1), (λ has_failed. refl))
stop_tells Part out0 out Memory h = ((λ e. absurd cc), (λ has_failed. absurd (steady_sound out0 out h.1 has_failed)))

-- what the counts find is what the entries tell
pub tells_end : (entries : List Entry) (tally : Tally) (found : WalkFound) → IsTally entries tally
    → Finds tally.refused (min (tally.done + tally.young) (2 ^ 64 - 1)) found → TrialFinds entries found
tells_end entries tally Well counts finds = rw (← counts.refused, ← counts.done, ← counts.young) (finds.0, omega (arith, finds.1))
tells_end entries tally Unwell counts finds = rw (← counts.refused) finds
tells_end entries tally NoDay counts finds =
    rw (← counts.refused, ← counts.done, ← counts.young) (finds.0, omega (arith, finds.1))

pub walk_ends : (days : DayOptions) (out0 out1 out : Device) (tally0 tally : Tally) (tried : Tried) →
    (told : TellsSome days out0 out1 tally0 tally) → Takes out1 out (summary_by days false told.entries)
    → TellsTried told.entries tried → Tries days out0 out (Ok tried)
walk_ends days out0 out1 out tally0 tally tried told prints end = record {
  printed = told.lines ++ summary_by days false told.entries;
  prints = takes_append out0 out1 out told.lines (summary_by days false told.entries) told.prints prints;
  ends = (
    told.entries,
    record { lines = told.lines; are_entries = told.are_entries; are_lines = told.are_lines; whole = refl },
    end,
  );
}

pub tree_ends : (asked : Trying) (before after : List Step → Type 0) (out0 out1 out : Device) (tally0 tally : Tally) (tried : Tried)
    → (told : TellsTrialOf asked before after out0 out1 tally0 tally) → Takes out1 out (summary_by asked.days false told.told.told.entries)
    → TellsTried told.told.told.entries tried → TriesTree asked before after out0 out tried
tree_ends asked before after out0 out1 out tally0 tally tried told prints end =
    let these = told.told.told in
    let printed : List ℕ = these.lines ++ summary_by asked.days false these.entries in
    record {
      visits = told.visits;
      entries = told.lines;
      printed = printed;
      prints = takes_append out0 out1 out these.lines (summary_by asked.days false these.entries) these.prints prints;
      text = subst (λ entries. IsWalk (IsTrialEntry asked.days) (IsTrialLine asked.days) (summary_by asked.days false) printed entries) told.told.are
          (record { lines = these.lines; are_entries = these.are_entries; are_lines = these.are_lines; whole = refl });
      tells = subst (λ entries. TellsTried entries tried) told.told.are end;
      goes = told.goes;
    }
