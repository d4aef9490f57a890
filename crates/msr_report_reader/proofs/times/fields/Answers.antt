use Rattle.std.proofs.Common.{◌≡◌, ◌∙◌, ap, arith, ◌+◌, ◌*◌, ◌/◌, ◌%◌, ◌++◌, ◌∷◌, List, ℕ, pos}
use Rattle.jiff_core.proofs.CalendarLemmas.{days_in_year_bounds}
use Rattle.msr_time.specs.declared.btime.BTime.{BTime as Time}
use Rattle.msr_report.specs.Text.{padded_decimal}
use Rattle.msr_report_reader.specs.Fields.{clock_then, date_then}
use Rattle.msr_report_reader.proofs.SameFields.{same_fields}
use Rattle.msr_report_reader.proofs.times.fields.Goals as goal

-- what comes after the parts of a time
abbrev after_second : Time → ℕ → List ℕ → List ℕ
after_second time micros rest = 46 ∷ (padded_decimal 6 (100 * time.fract + micros) ++ rest)

abbrev after_comma : Time → ℕ → List ℕ → List ℕ
after_comma time micros rest = clock_then time.hour time.minute time.second (after_second time micros rest)

pub returns-in_default-clause-only : goal.returns-in_default-clause-only
returns-in_default-clause-only c time micros rest is_time below is =
    let most = (days_in_year_bounds (pos time.year)).0 in
    absurd (c.in_default.ensures.only time.year time.day (44 ∷ after_comma time micros rest)
    (omega (arith, is_time.year)) (omega (arith, is_time.day, most)) is)

pub returns-in_default-after-clause-only : goal.returns-in_default-after-clause-only
returns-in_default-after-clause-only c time micros rest is_time below is =
    let most = (days_in_year_bounds (pos time.year)).0 in
    let date = c.in-Some.ensures.only time.year time.day (44 ∷ after_comma time micros rest)
    (omega (arith, is_time.year)) (omega (arith, is_time.day, most)) is in
    absurd (c.in_default-after.ensures.only (after_comma time micros rest) date.2)

pub returns-in_default-clock-clause-only : goal.returns-in_default-clock-clause-only
returns-in_default-clock-clause-only c time micros rest is_time below is =
    let most = (days_in_year_bounds (pos time.year)).0 in
    let date = c.in-Some.ensures.only time.year time.day (44 ∷ after_comma time micros rest)
    (omega (arith, is_time.year)) (omega (arith, is_time.day, most)) is in
    let comma = c.in-Some-after.ensures.only (after_comma time micros rest) date.2 in
    absurd (c.in_default-clock.ensures.only time.hour time.minute time.second (after_second time micros rest)
    (omega (arith, is_time.hour)) (omega (arith, is_time.minute)) (omega (arith, is_time.second)) comma)

pub returns-in_default-padded-clause-only : goal.returns-in_default-padded-clause-only
returns-in_default-padded-clause-only c time micros rest is_time below is =
    let most = (days_in_year_bounds (pos time.year)).0 in
    let date = c.in-Some.ensures.only time.year time.day (44 ∷ after_comma time micros rest)
    (omega (arith, is_time.year)) (omega (arith, is_time.day, most)) is in
    let comma = c.in-Some-after.ensures.only (after_comma time micros rest) date.2 in
    let clock = c.in-Some-clock.ensures.only time.hour time.minute time.second (after_second time micros rest)
    (omega (arith, is_time.hour)) (omega (arith, is_time.minute)) (omega (arith, is_time.second)) comma in
    absurd (c.in_default-padded.ensures.only (100 * time.fract + micros) rest (omega (arith, is_time.fract)) clock.3)

pub returns-clause-found : goal.returns-clause-found
returns-clause-found c =
    let n : ℕ = c.in-Some-padded.fraction in
    let sum : n ≡ 100 * (n / 100) + n % 100 = omega arith in
    c.in-Some.ensures.found ∙ ap (date_then c.in-Some.year c.in-Some.day)
    (c.in-Some-after.ensures.found ∙ ap (λ (l : List ℕ). 44 ∷ l) (c.in-Some-clock.ensures.found
    ∙ ap (clock_then c.in-Some-clock.hour c.in-Some-clock.minute c.in-Some-clock.second) (c.in-Some-padded.ensures.found
    ∙ ap (λ (k : ℕ). 46 ∷ (padded_decimal 6 k ++ c.in-Some-padded.text.now)) sum)))

pub returns-clause-only : goal.returns-clause-only
returns-clause-only c time micros rest is_time below is =
    let most = (days_in_year_bounds (pos time.year)).0 in
    let date = c.in-Some.ensures.only time.year time.day (44 ∷ after_comma time micros rest)
    (omega (arith, is_time.year)) (omega (arith, is_time.day, most)) is in
    let comma = c.in-Some-after.ensures.only (after_comma time micros rest) date.2 in
    let clock = c.in-Some-clock.ensures.only time.hour time.minute time.second (after_second time micros rest)
    (omega (arith, is_time.hour)) (omega (arith, is_time.minute)) (omega (arith, is_time.second)) comma in
    let part = c.in-Some-padded.ensures.only (100 * time.fract + micros) rest (omega (arith, is_time.fract)) clock.3 in (
      same_fields _ time date.0 date.1 clock.0 clock.1 clock.2 (omega (arith, part.0)),
      omega (arith, part.0),
      part.1,
    )
