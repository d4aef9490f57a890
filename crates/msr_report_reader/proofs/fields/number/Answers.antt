use Rattle.msr_report_reader.proofs.Digits.{parts, decimal_is_digits}
use Rattle.std.proofs.Common.{decimal}
use Rattle.msr_report_reader.proofs.fields.number.Goals as goal

pub returns-in_err-n-clause-only : goal.returns-in_err-n-clause-only
returns-in_err-n-clause-only c n rest small ends is =
    let p = parts c.args.text.now
    (decimal n) rest c.split_at.result.0.now c.split_at.result.1.now c.count_digits.result
    c.count_digits.ensures.count
    c.split_at.ensures.front c.split_at.ensures.back is (decimal_is_digits n small) ends in
    absurd (c.in_err-n.ensures.only n small p.0)

pub returns-clause-only : goal.returns-clause-only
returns-clause-only c n rest small ends is =
    let p = parts c.args.text.now
    (decimal n) rest c.split_at.result.0.now c.split_at.result.1.now c.count_digits.result
    c.count_digits.ensures.count
    c.split_at.ensures.front c.split_at.ensures.back is (decimal_is_digits n small) ends in
    (c.in_ok-n.ensures.only n small p.0, p.1)
