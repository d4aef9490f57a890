use Rattle.std.proofs.Common.{◌∙◌, ap, arith, to_z-of_z, FitsSigned, w64, ◌++◌, ◌∷◌, codes, decimal, refl, List, ℕ}
use Rattle.jiff_core.proofs.SignedLemmas.{signed_arith}
use Rattle.msr_report_reader.specs.Content.{key_then}
use Rattle.msr_report_reader.proofs.lines.opening.Goals as goal

-- what comes after the parts of an opening
abbrev after_samples : ℕ → List ℕ → List ℕ
after_samples records rest = codes " records " ++ (decimal records ++ (10 ∷ rest))

abbrev after_start : ℕ → ℕ → List ℕ → List ℕ
after_start samples records rest = codes " samples " ++ (decimal samples ++ after_samples records rest)

pub returns-in_default-clause-only : goal.returns-in_default-clause-only
returns-in_default-clause-only c key start samples records rest is_key fits_samples fits_records opening =
    absurd (c.in_default.ensures.only key _ is_key refl opening.is)

pub returns-in_default-after-clause-only : goal.returns-in_default-after-clause-only
returns-in_default-after-clause-only c key start samples records rest is_key fits_samples fits_records opening =
    absurd (c.in_default-after.ensures.only _ (c.in-Some.ensures.only key _ is_key refl opening.is))

pub returns-in_default-instant-clause-only : goal.returns-in_default-instant-clause-only
returns-in_default-instant-clause-only c key start samples records rest is_key fits_samples fits_records opening =
    let first = c.in-Some-after.ensures.only _ (c.in-Some.ensures.only key _ is_key refl opening.is) in
    absurd (c.in_default-instant.ensures.only start opening.word (after_start samples records rest) opening.time first)

pub returns-in_default-counted-clause-only : goal.returns-in_default-counted-clause-only
returns-in_default-counted-clause-only c key start samples records rest is_key fits_samples fits_records opening =
    let first = c.in-Some-after.ensures.only _ (c.in-Some.ensures.only key _ is_key refl opening.is) in
    let second = c.in-Some-instant.ensures.only start opening.word (after_start samples records rest) opening.time first in
    absurd (c.in_default-counted.ensures.only samples (after_samples records rest) fits_samples refl second.1)

pub returns-in_default-numbered-clause-only : goal.returns-in_default-numbered-clause-only
returns-in_default-numbered-clause-only c key start samples records rest is_key fits_samples fits_records opening =
    let first = c.in-Some-after.ensures.only _ (c.in-Some.ensures.only key _ is_key refl opening.is) in
    let second = c.in-Some-instant.ensures.only start opening.word (after_start samples records rest) opening.time first in
    let third = c.in-Some-counted.ensures.only samples (after_samples records rest) fits_samples refl second.1 in
    absurd (c.in_default-numbered.ensures.only records rest fits_records third.1)

pub returns-clause-only : goal.returns-clause-only
returns-clause-only c key start samples records rest is_key fits_samples fits_records opening =
    let first = c.in-Some-after.ensures.only _ (c.in-Some.ensures.only key _ is_key refl opening.is) in
    let second = c.in-Some-instant.ensures.only start opening.word (after_start samples records rest) opening.time first in
    let third = c.in-Some-counted.ensures.only samples (after_samples records rest) fits_samples refl second.1 in
    c.in-Some-numbered.ensures.only records rest fits_records third.1

pub returns-clause-is_key : goal.returns-clause-is_key
returns-clause-is_key c = c.in-Some.ensures.is_key

pub returns-clause-range : goal.returns-clause-range
returns-clause-range c =
    let fits : FitsSigned w64 c.in-Some-instant.start = omega (arith, signed_arith, c.in-Some-instant.ensures.range) in
    rw (to_z-of_z fits) c.in-Some-instant.ensures.range

pub returns-clause-found : goal.returns-clause-found
returns-clause-found c =
    let word = c.in-Some-instant.ensures.found in
    let fits : FitsSigned w64 c.in-Some-instant.start = omega (arith, signed_arith, c.in-Some-instant.ensures.range) in
    record {
      word = word.0;
      time = rw (to_z-of_z fits) word.1.0;
      is = c.in-Some.ensures.found ∙ ap (key_then c.in-Some.key)
          (c.in-Some-after.ensures.found ∙ ap (λ (l : List ℕ). codes " start " ++ l) word.1.1
          ∙ ap (λ (l : List ℕ). codes " start " ++ (word.0 ++ l)) (c.in-Some-counted.ensures.found ∙ ap (λ (l : List ℕ). codes " samples "
          ++ (decimal c.in-Some-counted.samples ++ l)) c.in-Some-numbered.ensures.found));
    }
