use Rattle.std.proofs.Common.{◌∙◌, ap, ◌++◌, ◌∷◌, codes, decimal, refl, List, ℕ}
use Rattle.msr_report_reader.proofs.lines.counts.Goals as goal

-- what comes after the parts of the line
abbrev after_empty : ℕ → List ℕ → List ℕ
after_empty mismatched rest = codes " mismatched " ++ (decimal mismatched ++ (10 ∷ rest))

abbrev after_read : ℕ → ℕ → List ℕ → List ℕ
after_read empty mismatched rest = codes " empty " ++ (decimal empty ++ after_empty mismatched rest)

pub returns-in_default-clause-only : goal.returns-in_default-clause-only
returns-in_default-clause-only c read empty mismatched rest fits_read fits_empty fits_mismatched is =
    absurd (c.in_default.ensures.only read (after_read empty mismatched rest) fits_read refl is)

pub returns-in_default-counted-clause-only : goal.returns-in_default-counted-clause-only
returns-in_default-counted-clause-only c read empty mismatched rest fits_read fits_empty fits_mismatched is =
    let first = c.in-Some.ensures.only read (after_read empty mismatched rest) fits_read refl is in
    absurd (c.in_default-counted.ensures.only empty (after_empty mismatched rest) fits_empty refl first.1)

pub returns-in_default-numbered-clause-only : goal.returns-in_default-numbered-clause-only
returns-in_default-numbered-clause-only c read empty mismatched rest fits_read fits_empty fits_mismatched is =
    let first = c.in-Some.ensures.only read (after_read empty mismatched rest) fits_read refl is in
    let second = c.in-Some-counted.ensures.only empty (after_empty mismatched rest) fits_empty refl first.1 in
    absurd (c.in_default-numbered.ensures.only mismatched rest fits_mismatched second.1)

pub returns-clause-found : goal.returns-clause-found
returns-clause-found c =
    c.in-Some.ensures.found ∙ ap (λ (l : List ℕ). codes "read " ++ (decimal c.in-Some.read ++ l))
    (c.in-Some-counted.ensures.found ∙ ap (λ (l : List ℕ). codes " empty " ++ (decimal c.in-Some-counted.empty ++ l))
    c.in-Some-numbered.ensures.found)

pub returns-clause-only : goal.returns-clause-only
returns-clause-only c read empty mismatched rest fits_read fits_empty fits_mismatched is =
    let first = c.in-Some.ensures.only read (after_read empty mismatched rest) fits_read refl is in
    let second = c.in-Some-counted.ensures.only empty (after_empty mismatched rest) fits_empty refl first.1 in
    let third = c.in-Some-numbered.ensures.only mismatched rest fits_mismatched second.1 in
    third.1
