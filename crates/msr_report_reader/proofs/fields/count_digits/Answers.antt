use Rattle.std.proofs.Common.{◌∙◌, arith, sym}
use Rattle.msr_report_reader.proofs.Digits.{counts_all, counts_more, counts_none, counts_stop}
use Rattle.msr_report_reader.proofs.fields.count_digits.Goals as goal

pub loop-count-init : goal.loop-count-init
loop-count-init c = counts_none c.args.text.now

pub loop-count-smaller : goal.loop-count-smaller
loop-count-smaller c = omega arith

pub loop-count-preserved : goal.loop-count-preserved
loop-count-preserved c =
    counts_more c.loop-count.count c.args.text.now c.loop-count.invariant (omega arith)
    (sym c.is_ascii_digit.ensures.value ∙ c.if-is_ascii_digit.true)

pub returns-else-is_ascii_digit-clause-within : goal.returns-else-is_ascii_digit-clause-within
returns-else-is_ascii_digit-clause-within c = c.loop-count.invariant.within

pub returns-else-is_ascii_digit-clause-count : goal.returns-else-is_ascii_digit-clause-count
returns-else-is_ascii_digit-clause-count c =
    counts_stop c.loop-count.count c.args.text.now c.loop-count.invariant (omega arith)
    (sym c.is_ascii_digit.ensures.value ∙ c.if-is_ascii_digit.false)

pub returns-after-loop-count-clause-within : goal.returns-after-loop-count-clause-within
returns-after-loop-count-clause-within c = c.loop-count.invariant.within

pub returns-after-loop-count-clause-count : goal.returns-after-loop-count-clause-count
returns-after-loop-count-clause-count c =
    counts_all c.loop-count.count c.args.text.now c.loop-count.invariant (omega arith)
