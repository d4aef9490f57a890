use Rattle.std.proofs.Common.{◌≡◌, ◌≤◌, subst, ◌∙◌, to_z-of_z, arith, ℤ, pos, neg_ℤ, to_z, of_z, unsigned_abs}
use Rattle.std.specs.Int.{w16}
use Rattle.jiff_core.specs.declared.civil.date.Date.{Date}
use Rattle.jiff_core.specs.Date.{epoch_day, ordinal}
use Rattle.jiff_core.specs.Calendar.{IsBetween, IsEpochDay, days_in_year}
use Rattle.jiff_core.proofs.SignedLemmas.{signed_arith, one_part, back_small}
use Rattle.jiff_core.proofs.CalendarLemmas.{day_of_year_bound}
use Rattle.jiff_core.proofs.DateLemmas.{civil}
use Rattle.msr_time.specs.Instant.{day_number}
use Rattle.msr_time.proofs.CalendarLemmas.{day_number-ordinal, supported_year}
use Rattle.msr_time.proofs.calendar.calendar_day.Goals as goal

-- a date of the supported years, by the number that its year is cast to
record Parts (d : Date) (day : ℤ) : Type 0 where
  year_back : to_z w16 (of_z w16 d.year) ≡ pos (unsigned_abs d.year)
  years : (1900 ≤ unsigned_abs d.year) × (unsigned_abs d.year ≤ 2100)
  places : (1 ≤ ordinal d) × (ordinal d ≤ days_in_year (pos (unsigned_abs d.year)))
  number : day_number (unsigned_abs d.year) (ordinal d) ≡ day

parts : (d : Date) (day : ℤ) → IsBetween (neg_ℤ (pos 25_567)) (pos 47_846) day → epoch_day d ≡ day → Parts d day
parts d day h e =
    let s = supported_year d (rw e h) in
    let positive : d.year ≡ pos (unsigned_abs d.year) = omega (arith, signed_arith, one_part d.year) in
    let last : ordinal d ≤ days_in_year (pos (unsigned_abs d.year)) =
    subst (λ (z : ℤ). ordinal d ≤ days_in_year z) positive (day_of_year_bound d.year d.month d.day (civil d)) in
    record {
      year_back = back_small w16 d.year (omega (arith, signed_arith, one_part d.year)) ∙ positive;
      years = (omega (arith, signed_arith, one_part d.year), omega (arith, signed_arith, one_part d.year));
      places = (omega (arith, d.day_in), last);
      number = day_number-ordinal d (unsigned_abs d.year) positive ∙ e;
    }

given : (c : goal.After-day_of_year) → Parts c.unwrap-date.result c.args.day
given c = parts c.unwrap-date.result c.args.day c.requires
    ((rw c.unwrap-date.ensures at c.from_unix_epoch_day.ensures.value) ∙ to_z-of_z c.ranges.day)

pub unwrap-date-requires : goal.unwrap-date-requires
unwrap-date-requires c =
    let within : IsEpochDay c.args.day = (omega (arith, signed_arith, c.requires), omega (arith, signed_arith, c.requires)) in
    c.from_unix_epoch_day.ensures.succeeds.1 (rw (to_z-of_z c.ranges.day) within)

pub overflow_cast-result : goal.overflow_cast-result
overflow_cast-result c =
    let p = parts c.unwrap-date.result c.args.day c.requires
    ((rw c.unwrap-date.ensures at c.from_unix_epoch_day.ensures.value) ∙ to_z-of_z c.ranges.day) in
    rw p.year_back (tt, omega (arith, p.years))

pub returns-clause-year : goal.returns-clause-year
returns-clause-year c = rw (given c).year_back (given c).years

pub returns-clause-day : goal.returns-clause-day
returns-clause-day c = rw (c.day_of_year.ensures.value, (given c).year_back) (given c).places

pub returns-clause-number : goal.returns-clause-number
returns-clause-number c = rw (c.day_of_year.ensures.value, (given c).year_back) (given c).number
