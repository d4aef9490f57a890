use Rattle.std.proofs.Common.{◌≡◌, ◌∙◌, ◌++◌, to_z-of_z, FitsSigned}
use Rattle.std.specs.Fmt.{signed_decimal}
use Rattle.std.specs.Int.{w32}
use Rattle.msr_report_reader.proofs.Digits.{signed_parts}
use Rattle.msr_report_reader.proofs.fields.signed.Goals as goal

pub returns-in_err-text-clause-only : goal.returns-in_err-text-clause-only
returns-in_err-text-clause-only c z rest fits ends is =
    absurd (c.in_err-text.ensures.only (signed_decimal z ++ rest) is)

pub returns-in_err-z-clause-only : goal.returns-in_err-z-clause-only
returns-in_err-z-clause-only c z rest fits ends is =
    let p = signed_parts c.in_ok-text.text.now z rest c.split_at.result.0.now c.split_at.result.1.now
    c.count_signed.result c.count_signed.ensures.count c.split_at.ensures.front c.split_at.ensures.back
    (c.in_ok-text.ensures.only (signed_decimal z ++ rest) is) fits ends in
    absurd (c.in_err-z.ensures.only z fits p.0)

pub returns-clause-only : goal.returns-clause-only
returns-clause-only c z rest fits ends is =
    let p = signed_parts c.in_ok-text.text.now z rest c.split_at.result.0.now c.split_at.result.1.now
    c.count_signed.result c.count_signed.ensures.count c.split_at.ensures.front c.split_at.ensures.back
    (c.in_ok-text.ensures.only (signed_decimal z ++ rest) is) fits ends in
    let same : c.in_ok-z.z ≡ z = c.in_ok-z.ensures.only z fits p.0 in
    let f : FitsSigned w32 c.in_ok-z.z = rw same fits in
    (to_z-of_z f ∙ same, p.1)
