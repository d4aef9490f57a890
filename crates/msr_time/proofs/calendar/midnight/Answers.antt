use Rattle.std.proofs.Common.{◌≡◌, ◌≤◌, ◌∙◌, refl, ap, arith, to_z-of_z, ℕ, ℤ, pos, neg_ℤ, ◌+ℤ◌, ◌-ℤ◌, ◌*ℤ◌, to_z, of_z, w16, w32, w64, FitsSigned}
use Rattle.std.proofs.lemmas.Int.{to_z_pos}
use Rattle.jiff_core.specs.declared.civil.date.Date.{Date}
use Rattle.jiff_core.specs.Calendar.{IsBetween}
use Rattle.jiff_core.proofs.CalendarLemmas.{days_in_year_bounds}
use Rattle.jiff_core.proofs.SignedLemmas.{signed_arith}
use Rattle.jiff_core.specs.Date.{epoch_day}
use Rattle.msr_time.specs.Instant.{day_number}
use Rattle.msr_time.proofs.CalendarLemmas.{day_number_bounds}
use Rattle.msr_time.proofs.calendar.midnight.Goals as goal

-- the product as the code computes it
micros_back : (first : ℤ) (day : ℕ) → IsBetween (neg_ℤ (pos 25_567)) (pos 47_846) first → 1 ≤ day → day ≤ 366
    → to_z w64 (of_z w64 (pos 86_400_000_000 *ℤ to_z w64 (of_z w64
    (to_z w64 (of_z w64 (to_z w32 (of_z w32 first))) +ℤ to_z w64 (of_z w64 (to_z w64 day -ℤ pos 1))))))
    ≡ pos 86_400_000_000 *ℤ (first +ℤ (pos day -ℤ pos 1))
micros_back first day h one last =
    let narrow : FitsSigned w32 first = omega (arith, signed_arith) in
    let wide : FitsSigned w64 first = omega (arith, signed_arith) in
    let number : to_z w64 day ≡ pos day = to_z_pos w64 day (omega arith) in
    let later : FitsSigned w64 (pos day -ℤ pos 1) = omega (arith, signed_arith) in
    let sum : FitsSigned w64 (first +ℤ (pos day -ℤ pos 1)) = omega (arith, signed_arith) in
    let product : FitsSigned w64 (pos 86_400_000_000 *ℤ (first +ℤ (pos day -ℤ pos 1))) = omega (arith, signed_arith) in
    rw (to_z-of_z narrow, to_z-of_z wide, number, to_z-of_z later, to_z-of_z sum, to_z-of_z product) refl

pub returns : goal.returns
returns c =
    let year = c.requires.year in
    let day = c.requires.day in
    let made = c.date.ensures in
    let year_is : c.date.result.year ≡ pos c.args.year =
    made.0 ∙ to_z_pos w16 c.args.year (omega (arith, year)) in
    let month_is : c.date.result.month ≡ 1 = omega (arith, signed_arith, made.1) in
    let day_is : c.date.result.day ≡ 1 = omega (arith, signed_arith, made.2) in
    let number : epoch_day c.date.result ≡ day_number c.args.year 1 =
    rw (year_is, month_is, day_is) (omega (arith, signed_arith)) in
    let first = c.to_unix_epoch_day-first.ensures.value ∙ ap (λ (d : Date). epoch_day d) c.to_plain.ensures ∙ number in
    let most = days_in_year_bounds (pos c.args.year) in
    let within : IsBetween (neg_ℤ (pos 25_567)) (pos 47_846) c.to_unix_epoch_day-first.result =
    rw first (day_number_bounds c.args.year 1 year.0 year.1 (omega arith) (omega (arith, most.1))) in
    let days : c.to_unix_epoch_day-first.result +ℤ (pos c.args.day -ℤ pos 1) ≡ day_number c.args.year c.args.day =
    rw first (omega (arith, signed_arith)) in
    micros_back _ c.args.day within day.0 (omega (arith, most.0)) ∙ ap (λ (d : ℤ). pos 86_400_000_000 *ℤ d) days
