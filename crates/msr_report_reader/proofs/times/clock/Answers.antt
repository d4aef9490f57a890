use Rattle.std.proofs.Common.{◌∙◌, ap, ◌++◌, ◌∷◌, List, ℕ}
use Rattle.msr_report.specs.Text.{padded_decimal}
use Rattle.msr_report_reader.proofs.times.clock.Goals as goal

-- what comes after the parts of a clock time
abbrev after_minute : ℕ → List ℕ → List ℕ
after_minute second rest = 58 ∷ (padded_decimal 2 second ++ rest)

abbrev after_hour : ℕ → ℕ → List ℕ → List ℕ
after_hour minute second rest = 58 ∷ (padded_decimal 2 minute ++ after_minute second rest)

pub returns-in_default-clause-only : goal.returns-in_default-clause-only
returns-in_default-clause-only c hour minute second rest fits_hour fits_minute fits_second is =
    absurd (c.in_default.ensures.only hour (after_hour minute second rest) fits_hour is)

pub returns-in_default-padded-clause-only : goal.returns-in_default-padded-clause-only
returns-in_default-padded-clause-only c hour minute second rest fits_hour fits_minute fits_second is =
    let first = c.in-Some.ensures.only hour (after_hour minute second rest) fits_hour is in
    absurd (c.in_default-padded.ensures.only minute (after_minute second rest) fits_minute first.1)

pub returns-in_default-padded-2-clause-only : goal.returns-in_default-padded-2-clause-only
returns-in_default-padded-2-clause-only c hour minute second rest fits_hour fits_minute fits_second is =
    let first = c.in-Some.ensures.only hour (after_hour minute second rest) fits_hour is in
    let middle = c.in-Some-padded.ensures.only minute (after_minute second rest) fits_minute first.1 in
    absurd (c.in_default-padded-2.ensures.only second rest fits_second middle.1)

pub returns-clause-found : goal.returns-clause-found
returns-clause-found c =
    c.in-Some.ensures.found ∙ ap (λ (l : List ℕ). padded_decimal 2 c.in-Some.hour ++ l)
    (c.in-Some-padded.ensures.found ∙ ap (λ (l : List ℕ). 58 ∷ (padded_decimal 2 c.in-Some-padded.minute ++ l))
    c.in-Some-padded-2.ensures.found)

pub returns-clause-only : goal.returns-clause-only
returns-clause-only c hour minute second rest fits_hour fits_minute fits_second is =
    let first = c.in-Some.ensures.only hour (after_hour minute second rest) fits_hour is in
    let middle = c.in-Some-padded.ensures.only minute (after_minute second rest) fits_minute first.1 in
    let last = c.in-Some-padded-2.ensures.only second rest fits_second middle.1 in
    (first.0, middle.0, last.0, last.1)
