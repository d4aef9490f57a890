use Rattle.std.proofs.Common.{ap, arith, length}
use Rattle.msr_report_reader.proofs.Digits.{signed_minus, signed_other}
use Rattle.msr_report_reader.proofs.fields.count_signed.Goals as goal

pub returns-then-first-eq45-clause-within : goal.returns-then-first-eq45-clause-within
returns-then-first-eq45-clause-within c =
    omega (arith, ap length c.in-Some.ensures.cases.0, c.count_digits.ensures.within)

pub returns-then-first-eq45-clause-count : goal.returns-then-first-eq45-clause-count
returns-then-first-eq45-clause-count c =
    signed_minus c.args.text.now c.in-Some.digits.now c.in-Some.first.now c.count_digits.result
    c.in-Some.ensures.cases.0 c.if-first-eq45.true c.count_digits.ensures.count

pub returns-else-first-eq45-clause-count : goal.returns-else-first-eq45-clause-count
returns-else-first-eq45-clause-count c =
    signed_other c.args.text.now c.in-Some.digits.now c.in-Some.first.now c.count_digits-else-first-eq45.result
    c.in-Some.ensures.cases.0 c.if-first-eq45.false c.count_digits-else-first-eq45.ensures.count
