-- Walks put together from the entries that were told.
use Rattle.std.proofs.Common.{ℕ, List, ◌++◌, ◌∙◌, ap, sym, append_assoc}
use Rattle.msr_devices.specs.Device.{Device, Takes}
use Rattle.msr_devices.specs.declared.fault.DeviceFault.{DeviceFault}
use Rattle.msr_devices.proofs.Chaining.{calm_same, takes_append}
use Rattle.msr_report.specs.Writing.{TakesPrefix}
use Rattle.msr_folders.specs.Visits.{IsWalkInPart, StopsAt, StopsPrefix, StopsTelling, TellsInPart, TellsMore}
use Rattle.msr_folders.proofs.VisitLemmas.{stops_within}

-- a prefix of the text of a walk was printed
pub record WalksInPart {E : Type 0} (is_entry : E → Type 0) (is_line : E → List ℕ → Type 0)
    (summary : List E → List ℕ) (out0 out : Device) : Type 0 where
  pub printed : List ℕ
  pub prints : Takes out0 out printed
  pub walk : IsWalkInPart is_entry is_line summary printed

module _ {E : Type 0} (is_entry : E → Type 0) (is_line : E → List ℕ → Type 0) (summary : List E → List ℕ) where
  -- up to an entry
  entries_in_part : (out0 out : Device) → TellsInPart is_entry is_line out0 out
      → WalksInPart is_entry is_line summary out0 out
  entries_in_part out0 out told = record {
    printed = told.printed;
    prints = told.prints;
    walk = record {
      entries = told.entries;
      rest = told.rest ++ summary told.entries;
      walk = record {
        lines = told.printed ++ told.rest;
        are_entries = told.are_entries;
        are_lines = told.are_lines;
        whole = sym (append_assoc told.printed told.rest (summary told.entries));
      };
    };
  }

  pub stops_entries : (out0 out : Device) (fault : DeviceFault) → StopsTelling is_entry is_line out0 out fault
      → StopsAt (WalksInPart is_entry is_line summary out0 out) out0 out fault
  stops_entries out0 out fault told = stops_within out0 out0 out fault (calm_same out0) (entries_in_part out0 out) told

  module _ {T : Type 0} (is_tally : List E → T → Type 0) where
    -- all entries, and a prefix of the last lines
    summary_in_part : (out0 out1 out : Device) (tally0 tally : T)
        (told : TellsMore is_entry is_line is_tally out0 out1 tally0 tally)
        → TakesPrefix out1 out (summary told.entries) → WalksInPart is_entry is_line summary out0 out
    summary_in_part out0 out1 out tally0 tally told front = record {
      printed = told.lines ++ front.taken;
      prints = takes_append out0 out1 out told.lines front.taken told.prints front.takes;
      walk = record {
        entries = told.entries;
        rest = front.rest;
        walk = record {
          lines = told.lines;
          are_entries = told.are_entries;
          are_lines = told.are_lines;
          whole = append_assoc told.lines front.taken front.rest
              ∙ ap (λ (t : List ℕ). told.lines ++ t) (sym front.whole);
        };
      };
    }

    pub stops_summary : (out0 out1 out : Device) (tally0 tally : T) (fault : DeviceFault)
        (told : TellsMore is_entry is_line is_tally out0 out1 tally0 tally)
        → StopsPrefix out1 out (summary told.entries) fault
        → StopsAt (WalksInPart is_entry is_line summary out0 out) out0 out fault
    stops_summary out0 out1 out tally0 tally fault told front =
        stops_within out0 out1 out fault told.calm (summary_in_part out0 out1 out tally0 tally told) front
