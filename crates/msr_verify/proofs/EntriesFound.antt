-- Walks put together from the entries that were told.
use Rattle.std.proofs.Common.{arith, ◌≡◌, ◌↔◌, ◌+◌, ◌-◌, ◌^◌, min, ℕ, List, ◌++◌, refl, sym, take, drop, Ok, Err, IsErrOf}
use Rattle.std.proofs.lemmas.List.{take-append-drop}
use Rattle.msr_devices.specs.Device.{Device, HasFailed, Takes}
use Rattle.msr_devices.specs.declared.fault.DeviceFault.{DeviceFault}
use Rattle.msr_devices.specs.declared.fault.DeviceFault.TheVariants.{Failed, Memory}
use Rattle.msr_devices.proofs.Chaining.{takes_append, calm_same, steady_sound}
use Rattle.msr_folders.specs.Found.{Finds}
use Rattle.msr_folders.specs.Visits.{StopsAt, StopsPrefix}
use Rattle.msr_folders.specs.declared.found.WalkFound.{WalkFound}
use Rattle.msr_folders.specs.declared.found.WalkFound.TheVariants.{Well, Unwell, NoDay}
use Rattle.msr_folders.proofs.VisitLemmas as visits
use Rattle.msr_folders.proofs.VisitLemmas.{part_none}
use Rattle.msr_folders.proofs.WalkLemmas as walks
use Rattle.msr_report.specs.Writing.{TakesPrefix}
use Rattle.msr_tool.specs.Fault.{fault_of_writing}
use Rattle.msr_tool.specs.declared.fault.ToolFault.TheVariants.{Write}
use Rattle.msr_verify.specs.declared.judgement.Judgement.{Judgement}
use Rattle.msr_verify.specs.declared.judgement.Judgement.TheVariants.{Refused, Skipped}
use Rattle.msr_verify.specs.declared.judgement.Refusal.TheVariants.{FileUnopened, Listing, RecordsListing}
use Rattle.msr_folders.specs.Days.{IsDay}
use Rattle.msr_verify.specs.Entries.{IsJudgementOf, IsJudgementOfDay, IsVerifyTally, JudgedEntry}
use Rattle.msr_verify.specs.Known.{IsJudgedEntry}
use Rattle.msr_options.specs.declared.task.Verifying.{Verifying}
use Rattle.msr_verify.specs.Lines.{IsToldLine}
use Rattle.msr_verify.specs.Walk.{StopsTellingJudged, TellsJudged, TellsVerified, Verifies, judged_summary, judged_end}
use Rattle.msr_verify.specs.declared.tally.VerifyTally.{VerifyTally}

-- nothing was printed
pub none_told : (asked : Verifying) (out : Device) → StopsTellingJudged asked out out Memory
none_told asked out = (part_none (IsJudgedEntry asked) (IsToldLine asked) out, (calm_same out).steady)

pub stops_more : (asked : Verifying) (out0 out1 out : Device) (tally0 tally1 : VerifyTally) (fault : DeviceFault) →
    TellsJudged asked out0 out1 tally0 tally1 → StopsTellingJudged asked out1 out fault → StopsTellingJudged asked out0 out fault
stops_more asked out0 out1 out tally0 tally1 fault first second =
    visits.stops_more (IsJudgedEntry asked) (IsToldLine asked) IsVerifyTally out0 out1 out tally0 tally1 fault first second

-- a prefix of the text of a walk was printed
abbrev pub WalksInPart : Verifying → Device → Device → Type 0
WalksInPart asked out0 out = walks.WalksInPart (IsJudgedEntry asked) (IsToldLine asked) (judged_summary asked) out0 out

pub stops_entries : (asked : Verifying) (out0 out : Device) (fault : DeviceFault) → StopsTellingJudged asked out0 out fault
    → StopsAt (WalksInPart asked out0 out) out0 out fault
stops_entries asked = walks.stops_entries (IsJudgedEntry asked) (IsToldLine asked) (judged_summary asked)

pub stops_summary : (asked : Verifying) (out0 out1 out : Device) (tally0 tally : VerifyTally) (fault : DeviceFault)
    (told : TellsJudged asked out0 out1 tally0 tally) → StopsPrefix out1 out (judged_summary asked told.entries) fault
    → StopsAt (WalksInPart asked out0 out) out0 out fault
stops_summary asked = walks.stops_summary (IsJudgedEntry asked) (IsToldLine asked) (judged_summary asked) IsVerifyTally

pub walk_stops : (asked : Verifying) (out0 out : Device) (fault : DeviceFault)
    → StopsAt (WalksInPart asked out0 out) out0 out fault → Verifies asked out0 out (Err (fault_of_writing fault))
walk_stops asked out0 out Failed h = record { printed = h.0.printed; prints = h.0.prints; ends = h.0.walk }
walk_stops asked out0 out Memory h = record { printed = h.0.printed; prints = h.0.prints; ends = h.0.walk }

-- the sink failed if that is told
pub stop_tells : (Part : Type 0) (out0 out : Device) (fault : DeviceFault) → StopsAt Part out0 out fault
    → IsErrOf {T = WalkFound} (Err (fault_of_writing fault)) Write ↔ HasFailed out0 out
stop_tells Part out0 out Failed h = ((λ e. h.1), (λ has_failed. refl))
stop_tells Part out0 out Memory h = ((λ e. absurd cc), (λ has_failed. absurd (steady_sound out0 out h.1 has_failed)))

-- what the counts find is what the entries tell
pub tells_end : (entries : List JudgedEntry) (tally : VerifyTally) (found : WalkFound) → IsVerifyTally entries tally
    → Finds tally.unverified (min (tally.verified + tally.known) (2 ^ 64 - 1)) found → TellsVerified entries found
tells_end entries tally Well counts finds = rw (← counts.unverified, ← counts.verified, ← counts.known) (finds.0, omega (arith, finds.1))
tells_end entries tally Unwell counts finds = rw (← counts.unverified) finds
tells_end entries tally NoDay counts finds = rw (← counts.unverified, ← counts.verified, ← counts.known) (finds.0, omega (arith, finds.1))

pub walk_ends : (asked : Verifying) (out0 out1 out : Device) (tally0 tally : VerifyTally) (found : WalkFound) →
    (told : TellsJudged asked out0 out1 tally0 tally) → Takes out1 out (judged_summary asked told.entries)
    → TellsVerified told.entries found →
    Verifies asked out0 out (Ok found)
walk_ends asked out0 out1 out tally0 tally found told prints end = record {
  printed = told.lines ++ judged_summary asked told.entries;
  prints = takes_append out0 out1 out told.lines (judged_summary asked told.entries) told.prints prints;
  ends = (
    told.entries,
    record {
      lines = told.lines;
      are_entries = told.are_entries;
      are_lines = told.are_lines;
      whole = refl;
    },
    end,
  );
}

-- the last line, from the counts of the entries
pub summary_is : (asked : Verifying) (entries : List JudgedEntry) (tally : VerifyTally) → IsVerifyTally entries tally
    → judged_end asked tally ≡ judged_summary asked entries
summary_is asked entries tally h =
    rw (h.verified, h.skipped, h.refused, h.known, h.missing, h.not_shown, h.differ, h.orphans, h.unverified) refl

-- a prefix of a text
pub front_piece : (old new : Device) (text : List ℕ) (n : ℕ) → Takes old new (take n text) → TakesPrefix old new text
front_piece old new text n piece = record {
  taken = take n text;
  rest = drop n text;
  takes = piece;
  whole = sym (take-append-drop n text);
}

-- what was found of a day is found of its entry
pub judged : (path : List ℕ) (judgement : Judgement) → IsDay path → IsJudgementOfDay judgement → IsJudgementOf path judgement
judged path (Refused FileUnopened) day is = tt
judged path (Refused Listing) day is = tt
judged path (Refused RecordsListing) day is = tt
judged path (Skipped fault) day is = absurd is
judged path judgement day is = record { day = day; judgement_is = is }
