use Rattle.std.proofs.Common.{◌∙◌, ap, ◌++◌, ◌∷◌, List, ℕ}
use Rattle.msr_report.specs.Text.{padded_decimal}
use Rattle.msr_report_reader.proofs.times.date.Goals as goal

pub returns-in_err-year-clause-only : goal.returns-in_err-year-clause-only
returns-in_err-year-clause-only c year day rest fits_year fits_day is =
    absurd (c.in_err-year.ensures.only year (44 ∷ (padded_decimal 3 day ++ rest)) fits_year is)

pub returns-in_err-day-clause-only : goal.returns-in_err-day-clause-only
returns-in_err-day-clause-only c year day rest fits_year fits_day is =
    let first = c.in_ok-year.ensures.only year (44 ∷ (padded_decimal 3 day ++ rest)) fits_year is in
    absurd (c.in_err-day.ensures.only day rest fits_day first.1)

pub returns-clause-found : goal.returns-clause-found
returns-clause-found c =
    c.in_ok-year.ensures.found ∙ ap (λ (l : List ℕ). padded_decimal 4 c.in_ok-year.year ++ l) c.in_ok-day.ensures.found

pub returns-clause-only : goal.returns-clause-only
returns-clause-only c year day rest fits_year fits_day is =
    let first = c.in_ok-year.ensures.only year (44 ∷ (padded_decimal 3 day ++ rest)) fits_year is in
    let second = c.in_ok-day.ensures.only day rest fits_day first.1 in
    (first.0, second.0, second.1)
