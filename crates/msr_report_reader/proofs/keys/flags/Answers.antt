use Rattle.std.proofs.Common.{◌∙◌, ap, ◌++◌, ◌∷◌, codes, List, ℕ}
use Rattle.msr_rows.specs.declared.row.Key.{Key}
use Rattle.msr_report.specs.Text.{hex_text}
use Rattle.msr_report_reader.proofs.keys.flags.Goals as goal

-- what comes after the flags of activity and of the clock
abbrev after_clock : Key → List ℕ → List ℕ
after_clock key rest = 32 ∷ (hex_text key.data_quality ++ rest)

abbrev after_activity : Key → List ℕ → List ℕ
after_activity key rest = 32 ∷ (hex_text key.clock ++ after_clock key rest)

pub returns-in_default-clause-only : goal.returns-in_default-clause-only
returns-in_default-clause-only c key rest is_key is =
    absurd (c.in_default.ensures.only key.activity (after_activity key rest) is_key.activity is)

pub returns-in_default-byte_after-clause-only : goal.returns-in_default-byte_after-clause-only
returns-in_default-byte_after-clause-only c key rest is_key is =
    let first = c.in-Some.ensures.only key.activity (after_activity key rest) is_key.activity is in
    absurd (c.in_default-byte_after.ensures.only key.clock (after_clock key rest) is_key.clock first.1)

pub returns-in_default-byte_after-2-clause-only : goal.returns-in_default-byte_after-2-clause-only
returns-in_default-byte_after-2-clause-only c key rest is_key is =
    let first = c.in-Some.ensures.only key.activity (after_activity key rest) is_key.activity is in
    let second = c.in-Some-byte_after.ensures.only key.clock (after_clock key rest) is_key.clock first.1 in
    absurd (c.in_default-byte_after-2.ensures.only key.data_quality rest is_key.data_quality second.1)

pub returns-clause-found : goal.returns-clause-found
returns-clause-found c =
    c.in-Some.ensures.found ∙ ap (λ (l : List ℕ). codes " flags " ++ (hex_text c.in-Some.activity ++ l))
    (c.in-Some-byte_after.ensures.found ∙ ap (λ (l : List ℕ). 32 ∷ (hex_text c.in-Some-byte_after.clock ++ l))
    c.in-Some-byte_after-2.ensures.found)

pub returns-clause-only : goal.returns-clause-only
returns-clause-only c key rest is_key is =
    let first = c.in-Some.ensures.only key.activity (after_activity key rest) is_key.activity is in
    let second = c.in-Some-byte_after.ensures.only key.clock (after_clock key rest) is_key.clock first.1 in
    (c.in-Some-byte_after-2.ensures.only key.data_quality rest is_key.data_quality second.1).1
