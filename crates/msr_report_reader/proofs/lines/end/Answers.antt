use Rattle.std.proofs.Common.{◌∙◌, ap, refl, ◌++◌, ◌∷◌, codes, decimal, List, ℕ}
use Rattle.msr_report_reader.proofs.lines.end.Goals as goal

-- what comes after the number of segments
abbrev after_segments : ℕ → List ℕ → List ℕ
after_segments records rest = codes " segments " ++ (decimal records ++ (codes " records" ++ (10 ∷ rest)))

pub returns-in_default-clause-only : goal.returns-in_default-clause-only
returns-in_default-clause-only c segments records rest fits_segments fits_records is =
    absurd (c.in_default.ensures.only segments (after_segments records rest) fits_segments refl is)

pub returns-in_default-counted-clause-only : goal.returns-in_default-counted-clause-only
returns-in_default-counted-clause-only c segments records rest fits_segments fits_records is =
    let first = c.in-Some.ensures.only segments (after_segments records rest) fits_segments refl is in
    absurd (c.in_default-counted.ensures.only records (codes " records" ++ (10 ∷ rest)) fits_records refl first.1)

pub returns-in_default-after-clause-only : goal.returns-in_default-after-clause-only
returns-in_default-after-clause-only c segments records rest fits_segments fits_records is =
    let first = c.in-Some.ensures.only segments (after_segments records rest) fits_segments refl is in
    let second = c.in-Some-counted.ensures.only records (codes " records" ++ (10 ∷ rest)) fits_records refl first.1 in
    absurd (c.in_default-after.ensures.only rest second.1)

pub returns-clause-found : goal.returns-clause-found
returns-clause-found c =
    c.in-Some.ensures.found ∙ ap (λ (l : List ℕ). codes "end " ++ (decimal c.in-Some.segments ++ l))
    (c.in-Some-counted.ensures.found ∙ ap (λ (l : List ℕ). codes " segments " ++ (decimal c.in-Some-counted.records ++ l))
    c.in-Some-after.ensures.found)

pub returns-clause-only : goal.returns-clause-only
returns-clause-only c segments records rest fits_segments fits_records is =
    let first = c.in-Some.ensures.only segments (after_segments records rest) fits_segments refl is in
    let second = c.in-Some-counted.ensures.only records (codes " records" ++ (10 ∷ rest)) fits_records refl first.1 in
    (first.0, second.0, c.in-Some-after.ensures.only rest second.1)
