-- Entries told one after another.
use Rattle.std.proofs.Common.{ℕ, List, [], ◌∷◌, ◌++◌, ◌∙◌, refl, ap, sym, subst, append_assoc, take, drop}
use Rattle.std.proofs.lemmas.List.{append-nil, take-append-drop}
use Rattle.std.specs.List.{AllByRecursion}
use Rattle.msr_devices.specs.Device.{Device, IsCalm, Takes}
use Rattle.msr_devices.specs.declared.fault.DeviceFault.{DeviceFault}
use Rattle.msr_devices.specs.declared.fault.DeviceFault.TheVariants.{Failed, Memory}
use Rattle.msr_devices.proofs.Chaining.{takes_append, takes_none, calm_same, calm_calm, calm_failed, steady_steady}
use Rattle.msr_folders.specs.Visits.{AreLines, StopsAt, TellsInPart, TellsMore, TellsThese}

all_joined : {E : Type 0} (P : E → Type 0) (entries others : List E) → AllByRecursion P entries → AllByRecursion P others
    → AllByRecursion P (entries ++ others)
all_joined P [] others front back = back
all_joined P (entry ∷ entries) others front back = (front.0, all_joined P entries others front.1 back)

-- a part stops what it belongs to, if nothing failed before it
pub stops_within : {Part Whole : Type 0} (out0 out1 out : Device) (fault : DeviceFault) → IsCalm out0 out1
    → (Part → Whole) → StopsAt Part out1 out fault → StopsAt Whole out0 out fault
stops_within out0 out1 out Failed calm whole h = (whole h.0, calm_failed out0 out1 out calm h.1)
stops_within out0 out1 out Memory calm whole h = (whole h.0, steady_steady out0 out1 out calm.steady h.1)

module _ {E : Type 0} (is_entry : E → Type 0) (is_line : E → List ℕ → Type 0) where
  lines_append : (entries others : List E) (lines more : List ℕ) → AreLines is_line entries lines
      → AreLines is_line others more → AreLines is_line (entries ++ others) (lines ++ more)
  lines_append [] others lines more h k =
      let P : List ℕ → Type 0 = λ t. AreLines is_line others (t ++ more) in subst P (sym h) k
  lines_append (entry ∷ entries) others lines more h k = (
    h.0,
    h.1 ++ more,
    h.2,
    lines_append entries others h.1 more h.3 k,
    ap (λ (t : List ℕ). t ++ more) h.4
        ∙ append_assoc h.0 h.1 more,
  )

  one_line : (entry : E) (line : List ℕ) → is_line entry line → AreLines is_line (entry ∷ []) line
  one_line entry line h = (line, [], h, refl, sym (append-nil line))

  -- nothing was printed
  pub part_none : (out : Device) → TellsInPart is_entry is_line out out
  part_none out = record {
    entries = [];
    printed = [];
    rest = [];
    are_entries = tt;
    are_lines = refl;
    prints = takes_none out;
  }

  -- a prefix of a line
  pub part_line : (out0 out : Device) (n : ℕ) (entry : E) (line : List ℕ) → is_entry entry → is_line entry line
      → Takes out0 out (take n line) → TellsInPart is_entry is_line out0 out
  part_line out0 out n entry line told lined prints = record {
    entries = entry ∷ [];
    printed = take n line;
    rest = drop n line;
    are_entries = (told, tt);
    are_lines = rw (take-append-drop n line) (one_line entry line lined);
    prints = prints;
  }

  -- a whole line
  pub part_one : (out0 out : Device) (entry : E) (line : List ℕ) → is_entry entry → is_line entry line
      → Takes out0 out line → TellsInPart is_entry is_line out0 out
  part_one out0 out entry line told lined prints = record {
    entries = entry ∷ [];
    printed = line;
    rest = [];
    are_entries = (told, tt);
    are_lines = rw (append-nil line) (one_line entry line lined);
    prints = prints;
  }

  module _ {T : Type 0} (is_tally : List E → T → Type 0) where
    -- no entry more
    pub tells_none : (out : Device) (tally : T) → TellsMore is_entry is_line is_tally out out tally tally
    tells_none out tally = record {
      entries = [];
      lines = [];
      are_entries = tt;
      are_lines = refl;
      prints = takes_none out;
      calm = calm_same out;
      counts = λ before h. let P : List E → Type 0 = λ es. is_tally es tally in subst P (sym (append-nil before)) h;
    }

    -- one entry more
    pub tells_one : (out0 out : Device) (tally0 tally : T) (entry : E) (line : List ℕ) → is_entry entry
        → is_line entry line → Takes out0 out line → IsCalm out0 out
        → ((before : List E) → is_tally before tally0 → is_tally (before ++ entry ∷ []) tally)
        → TellsMore is_entry is_line is_tally out0 out tally0 tally
    tells_one out0 out tally0 tally entry line told lined prints calm counts = record {
      entries = entry ∷ [];
      lines = line;
      are_entries = (told, tt);
      are_lines = one_line entry line lined;
      prints = prints;
      calm = calm;
      counts = counts;
    }

    pub tells_more : (out0 out1 out : Device) (tally0 tally1 tally : T)
        → TellsMore is_entry is_line is_tally out0 out1 tally0 tally1 → TellsMore is_entry is_line is_tally out1 out tally1 tally
        → TellsMore is_entry is_line is_tally out0 out tally0 tally
    tells_more out0 out1 out tally0 tally1 tally first second = record {
      entries = first.entries ++ second.entries;
      lines = first.lines ++ second.lines;
      are_entries = all_joined is_entry first.entries second.entries first.are_entries second.are_entries;
      are_lines = lines_append first.entries second.entries first.lines second.lines first.are_lines second.are_lines;
      prints = takes_append out0 out1 out first.lines second.lines first.prints second.prints;
      calm = calm_calm out0 out1 out first.calm second.calm;
      counts = λ before h.
          let P : List E → Type 0 = λ es. is_tally es tally in
          subst P (append_assoc before first.entries second.entries)
          (second.counts (before ++ first.entries) (first.counts before h));
    }

    -- these entries were told
    pub these_none : (out : Device) (tally : T) → TellsThese is_entry is_line is_tally [] out out tally tally
    unfolding tells_none
    these_none out tally = record { told = tells_none out tally; are = refl }

    pub these_one : (out0 out : Device) (tally0 tally : T) (entry : E) (line : List ℕ) → is_entry entry
        → is_line entry line → Takes out0 out line → IsCalm out0 out
        → ((before : List E) → is_tally before tally0 → is_tally (before ++ entry ∷ []) tally)
        → TellsThese is_entry is_line is_tally (entry ∷ []) out0 out tally0 tally
    unfolding tells_one
    these_one out0 out tally0 tally entry line told lined prints calm counts =
        record { told = tells_one out0 out tally0 tally entry line told lined prints calm counts; are = refl }

    pub these_more : (one two : List E) (out0 out1 out : Device) (tally0 tally1 tally : T)
        → TellsThese is_entry is_line is_tally one out0 out1 tally0 tally1 → TellsThese is_entry is_line is_tally two out1 out tally1 tally
        → TellsThese is_entry is_line is_tally (one ++ two) out0 out tally0 tally
    unfolding tells_more
    these_more one two out0 out1 out tally0 tally1 tally first second = record {
      told = tells_more out0 out1 out tally0 tally1 tally first.told second.told;
      are = ap (λ l. l ++ second.told.entries) first.are ∙ ap (λ l. one ++ l) second.are;
    }

    part_more : (out0 out1 out : Device) (tally0 tally1 : T) → TellsMore is_entry is_line is_tally out0 out1 tally0 tally1
        → TellsInPart is_entry is_line out1 out → TellsInPart is_entry is_line out0 out
    part_more out0 out1 out tally0 tally1 first second = record {
      entries = first.entries ++ second.entries;
      printed = first.lines ++ second.printed;
      rest = second.rest;
      are_entries = all_joined is_entry first.entries second.entries first.are_entries second.are_entries;
      are_lines = rw (append_assoc first.lines second.printed second.rest)
          (lines_append first.entries second.entries first.lines (second.printed ++ second.rest)
          first.are_lines second.are_lines);
      prints = takes_append out0 out1 out first.lines second.printed first.prints second.prints;
    }

    pub stops_more : (out0 out1 out : Device) (tally0 tally1 : T) (fault : DeviceFault)
        → TellsMore is_entry is_line is_tally out0 out1 tally0 tally1 → StopsAt (TellsInPart is_entry is_line out1 out) out1 out fault
        → StopsAt (TellsInPart is_entry is_line out0 out) out0 out fault
    stops_more out0 out1 out tally0 tally1 fault first second =
        stops_within out0 out1 out fault first.calm (part_more out0 out1 out tally0 tally1 first) second
