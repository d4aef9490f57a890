-- Two sides that were read as far as they are the same.
use Rattle.std.proofs.Common.{◌≡◌, ◌+◌, ◌<◌, ◌≤◌, List, ◌++◌, length, sym, ap, ◌∙◌, arith, append_assoc, length-append, Option}
use Rattle.msr_devices.specs.Device.{Device}
use Rattle.msr_input.specs.Rows.{RowReading, row_settings}
use Rattle.msr_input.specs.declared.settings.Settings.{Settings}
use Rattle.msr_compare.specs.declared.comparison.Difference.{Difference}
use Rattle.msr_compare.specs.Seen.{Sight, nothing_seen}
use Rattle.msr_compare.specs.Symbols.{Symbol}
use Rattle.msr_compare.specs.Sides.{Standing, HasTaken, IsFetched, weight}
use Rattle.msr_compare.specs.Meetings.{HaveFetched, HaveMet, HaveTaken, IsFoundAhead, PassesAlike, PassesOnly, StandStill}

-- a side that passed what is ahead
pass_one : {seen : Sight} {settings : Settings} {start now : Device} {side new : Standing} {done : List Symbol}
    (front : List Symbol) → HasTaken seen settings start now side done → side.ahead ≡ front ++ new.ahead
    → PassesOnly side new → HasTaken seen settings start now new (done ++ front)
pass_one {new = new} {done} front h ahead only = record {
  records = h.records;
  answers = h.answers;
  read = rw only.reading h.read;
  is_seen = rw only.reading h.is_seen;
  settings_are = ap row_settings only.reading ∙ h.settings_are;
  bounded = h.bounded;
  joining = h.joining;
  given = h.given;
  joined = h.joined;
  stands = ap (λ (r : RowReading). r.following) only.reading ∙ h.stands;
  symbols = h.symbols ∙ ap (λ (l : List Symbol). done ++ l) ahead ∙ sym (append_assoc done front new.ahead);
  tallied = rw only.tally h.tallied;
  end = λ e. rw only.reading (h.end (sym only.ended ∙ e));
}

pub fetched_both : {seen : Sight} {settings : Settings} {start_one one_now start_other other_now : Device}
    {one other : Standing} {done : List Symbol} → IsFetched seen settings start_one one_now one done
    → IsFetched nothing_seen settings start_other other_now other done
    → HaveFetched seen settings start_one one_now start_other other_now one other
fetched_both {done = done} f g = record {
  taken = record { done = done; one_taken = f.taken; other_taken = g.taken };
  one_some = f.some;
  other_some = g.some;
}

pub pass_both : {seen : Sight} {settings : Settings} {start_one one_now start_other other_now : Device}
    {one other new_one new_other : Standing}
    → HaveFetched seen settings start_one one_now start_other other_now one other
    → PassesAlike one other new_one new_other
    → HaveTaken seen settings start_one one_now start_other other_now new_one new_other
pass_both h p = record {
  done = h.taken.done ++ p.front;
  one_taken = pass_one p.front h.taken.one_taken p.one_is p.one_passes;
  other_taken = pass_one p.front h.taken.other_taken p.other_is p.other_passes;
}

pub met_so : {seen : Sight} {settings : Settings} {start_one one_now start_other other_now : Device}
    {one other new_one new_other : Standing} (found : Option Difference)
    → HaveFetched seen settings start_one one_now start_other other_now one other
    → StandStill one other new_one new_other
    → IsFoundAhead one other found → HaveMet seen settings start_one one_now start_other other_now new_one new_other found
met_so found h still is = rw (still.one_still, still.other_still) (record { fetched = h; is_found = is })

-- less is left of a side that passed something
passes_less : {side new : Standing} (source : Device) (front : List Symbol) → 1 ≤ length front
    → side.ahead ≡ front ++ new.ahead → PassesOnly side new → weight source new < weight source side
passes_less {new = new} source front some ahead only =
    let size = ap length ahead ∙ length-append front new.ahead in
    rw (only.ended, only.reading) (omega (arith, size, some))

pub weighs_less_both : {one other new_one new_other : Standing} (source other_source : Device)
    → PassesAlike one other new_one new_other
    → weight source new_one + weight other_source new_other < weight source one + weight other_source other
weighs_less_both source other_source p =
    let one = passes_less source p.front p.some p.one_is p.one_passes in
    let other = passes_less other_source p.front p.some p.other_is p.other_passes in
    omega (arith, one, other)
