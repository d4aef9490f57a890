-- Walks put together from the entries that were told.
use Rattle.std.proofs.Common.{◌≡◌, ◌↔◌, ◌+◌, ◌-◌, ◌^◌, min, List, [], ◌++◌, arith, refl, subst, sym, Ok, Err, IsErrOf, OnOk, Result}
use Rattle.msr_devices.specs.Device.{Device, HasFailed, Takes}
use Rattle.msr_devices.specs.declared.fault.DeviceFault.{DeviceFault}
use Rattle.msr_devices.specs.declared.fault.DeviceFault.TheVariants.{Failed, Memory}
use Rattle.msr_devices.proofs.Chaining.{takes_append, calm_same, steady_sound}
use Rattle.msr_folders.specs.Found.{Finds}
use Rattle.msr_folders.specs.Visits.{StopsAt, StopsPrefix}
use Rattle.msr_folders.specs.declared.found.WalkFound.{WalkFound}
use Rattle.msr_folders.specs.declared.found.WalkFound.TheVariants.{Well, Unwell, NoDay}
use Rattle.msr_folders.proofs.VisitLemmas.{part_none, these_none}
use Rattle.msr_folders.proofs.WalkLemmas as walks
use Rattle.msr_tool.specs.Fault.{fault_of_writing}
use Rattle.msr_tool.specs.declared.fault.ToolFault.TheVariants.{Write}
use Rattle.msr_options.specs.declared.task.Archiving.{Archiving}
use Rattle.msr_outcomes.specs.Entries.{Entry, IsTally, first_unopened}
use Rattle.msr_outcomes.specs.Known.{IsEntry}
use Rattle.msr_outcomes.specs.Lines.{IsEntryLine}
use Rattle.msr_walk.specs.Told.{TellsOutcomesOf}
use Rattle.msr_walk.specs.Walk.{StopsTellingOutcomes, TellsEnd, TellsOutcomes, Walks}
use Rattle.msr_outcomes.specs.Summary.{summary}
use Rattle.msr_walk.specs.declared.folders.Walked.{Walked}
use Rattle.msr_outcomes.specs.declared.tally.Tally.{Tally}

-- nothing was printed
pub none_told : (asked : Archiving) (out : Device) → StopsTellingOutcomes asked out out Memory
none_told asked out = (part_none (IsEntry asked) (IsEntryLine asked) out, (calm_same out).steady)

-- a prefix of the text of a walk was printed
abbrev pub WalksInPart : Archiving → Device → Device → Type 0
WalksInPart asked out0 out = walks.WalksInPart (IsEntry asked) (IsEntryLine asked) (summary asked) out0 out

pub stops_entries : (asked : Archiving) (out0 out : Device) (fault : DeviceFault)
    → StopsTellingOutcomes asked out0 out fault → StopsAt (WalksInPart asked out0 out) out0 out fault
stops_entries asked = walks.stops_entries (IsEntry asked) (IsEntryLine asked) (summary asked)

pub stops_summary : (asked : Archiving) (out0 out1 out : Device) (tally0 tally : Tally) (fault : DeviceFault)
    (told : TellsOutcomes asked out0 out1 tally0 tally) → StopsPrefix out1 out (summary asked told.entries) fault
    → StopsAt (WalksInPart asked out0 out) out0 out fault
stops_summary asked = walks.stops_summary (IsEntry asked) (IsEntryLine asked) (summary asked) IsTally

pub walk_stops : (asked : Archiving) (out0 out : Device) (fault : DeviceFault)
    → StopsAt (WalksInPart asked out0 out) out0 out fault → Walks asked out0 out (Err (fault_of_writing fault))
walk_stops asked out0 out Failed h = record { printed = h.0.printed; prints = h.0.prints; ends = h.0.walk }
walk_stops asked out0 out Memory h = record { printed = h.0.printed; prints = h.0.prints; ends = h.0.walk }

-- the sink failed if that is told
pub stop_tells : (Part : Type 0) (out0 out : Device) (fault : DeviceFault) → StopsAt Part out0 out fault
    → IsErrOf {T = Walked} (Err (fault_of_writing fault)) Write ↔ HasFailed out0 out
stop_tells Part out0 out Failed h = ((λ e. h.1), (λ has_failed. refl))
stop_tells Part out0 out Memory h = ((λ e. absurd cc), (λ has_failed. absurd (steady_sound out0 out h.1 has_failed)))

-- what the counts find is what the entries tell
pub tells_end : (entries : List Entry) (tally : Tally) (found : WalkFound) → IsTally entries tally
    → Finds tally.refused (min (min (min (tally.done + tally.larger) (2 ^ 64 - 1) + tally.young) (2 ^ 64 - 1) + tally.known) (2 ^ 64 - 1)) found
    → TellsEnd entries found
tells_end entries tally Well counts finds =
    rw (← counts.refused, ← counts.done, ← counts.larger, ← counts.young, ← counts.known) (finds.0, omega (arith, finds.1))
tells_end entries tally Unwell counts finds = rw (← counts.refused) finds
tells_end entries tally NoDay counts finds = rw (← counts.refused, ← counts.done, ← counts.larger, ← counts.young, ← counts.known)
    (finds.0, omega (arith, finds.1))

pub walk_ends : (asked : Archiving) (out0 out1 out : Device) (tally0 tally : Tally) (walked : Walked) →
    (told : TellsOutcomes asked out0 out1 tally0 tally) → Takes out1 out (summary asked told.entries)
    → TellsEnd told.entries walked.found → walked.unopened ≡ first_unopened told.entries →
    Walks asked out0 out (Ok walked)
walk_ends asked out0 out1 out tally0 tally walked told prints end first = record {
  printed = told.lines ++ summary asked told.entries;
  prints = takes_append out0 out1 out told.lines (summary asked told.entries) told.prints prints;
  ends = (
    told.entries,
    record {
      lines = told.lines;
      are_entries = told.are_entries;
      are_lines = told.are_lines;
      whole = refl;
    },
    record { end = end; first = first },
  );
}

-- what is told where the counts are a part of what changes
pub told_among : {P : Type 0} (tally : P → Tally) (asked : Archiving) (entries : List Entry) (out0 out : Device) (of0 of : P) → TellsOutcomesOf tally asked entries out0 out of0 of
    → TellsOutcomes asked out0 out (tally of0) (tally of)
told_among tally asked entries out0 out of0 of these = record {
  entries = these.told.entries;
  lines = these.told.lines;
  are_entries = these.told.are_entries;
  are_lines = these.told.are_lines;
  prints = these.told.prints;
  calm = these.told.calm;
  counts = these.told.counts;
}

-- the counts are the same
pub counted_same : {P : Type 0} (tally : P → Tally) (asked : Archiving) (entries : List Entry) (out0 out : Device) (of0 of1 of : P) → tally of ≡ tally of1
    → TellsOutcomesOf tally asked entries out0 out of0 of1 → TellsOutcomesOf tally asked entries out0 out of0 of
counted_same tally asked entries out0 out of0 of1 of same these = record {
  told = record {
    entries = these.told.entries;
    lines = these.told.lines;
    are_entries = these.told.are_entries;
    are_lines = these.told.are_lines;
    prints = these.told.prints;
    calm = these.told.calm;
    counts = λ before is. subst (λ (t : Tally). IsTally (before ++ these.told.entries) t) (sym same) (these.told.counts before is);
  };
  are = these.are;
}

-- nothing is told, and the counts stay
pub none_among : {P : Type 0} (tally : P → Tally) (asked : Archiving) (out : Device) (of0 of : P) → tally of ≡ tally of0 → TellsOutcomesOf tally asked [] out out of0 of
none_among tally asked out of0 of same =
    counted_same tally asked [] out out of0 of0 of same (these_none (IsEntry asked) (IsEntryLine asked) (λ entries counted. IsTally entries (tally counted)) out of0)

-- the same, of a part that has the same counts
pub counted_on : {P E : Type 0} (tally : P → Tally) (asked : Archiving) (entries : List Entry) (out0 out : Device) (from0 to0 from1 to1 : P) (result : Result (Unit {0}) E)
    → OnOk result (TellsOutcomesOf tally asked entries out0 out from1 to1) → tally from0 ≡ tally from1 → tally to0 ≡ tally to1
    → OnOk result (TellsOutcomesOf tally asked entries out0 out from0 to0)
counted_on tally asked entries out0 out from0 to0 from1 to1 (Ok x) these from to = record {
  told = record {
    entries = these.told.entries;
    lines = these.told.lines;
    are_entries = these.told.are_entries;
    are_lines = these.told.are_lines;
    prints = these.told.prints;
    calm = these.told.calm;
    counts = λ before is. subst (λ (t : Tally). IsTally (before ++ these.told.entries) t) (sym to)
        (these.told.counts before (subst (λ (t : Tally). IsTally before t) from is));
  };
  are = these.are;
}
counted_on tally asked entries out0 out from0 to0 from1 to1 (Err why) these from to = tt
