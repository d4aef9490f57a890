use Rattle.std.proofs.Common.{◌≡◌, ◌∙◌, arith, refl, slice_index_or, sym, true}
use Rattle.std.specs.Char.{is_ascii_digit}
use Rattle.msr_report_reader.proofs.Digits.{digit_range}
use Rattle.msr_report_reader.proofs.Padded.{all_are_digits, reads_all, reads_more, reads_none}
use Rattle.msr_report_reader.proofs.times.value_of.Goals as goal

pub loop-digit-init : goal.loop-digit-init
loop-digit-init c = reads_none c.args.digits.now

pub returns-then-not-is_ascii_digit : goal.returns-then-not-is_ascii_digit
returns-then-not-is_ascii_digit c all =
    let yes : is_ascii_digit (slice_index_or c.args.digits.now c.loop-digit.digit-index 0) ≡ true =
    all_are_digits c.args.digits.now c.loop-digit.digit-index all c.loop-digit-test.true in
    cc (yes, c.is_ascii_digit.ensures.value)

pub overflow_mul-value : goal.overflow_mul-value
overflow_mul-value c = omega (arith, c.loop-digit.invariant.small)

pub overflow_sub-value : goal.overflow_sub-value
overflow_sub-value c =
    (digit_range (slice_index_or c.args.digits.now c.loop-digit.digit-index 0)
    (sym c.is_ascii_digit.ensures.value ∙ c.if-not-is_ascii_digit.false)).least

pub overflow_add-value : goal.overflow_add-value
overflow_add-value c =
    let range = digit_range (slice_index_or c.args.digits.now c.loop-digit.digit-index 0)
    (sym c.is_ascii_digit.ensures.value ∙ c.if-not-is_ascii_digit.false) in
    omega (arith, c.loop-digit.invariant.small, range.most)

pub loop-digit-preserved : goal.loop-digit-preserved
loop-digit-preserved c =
    reads_more c.args.digits.now c.loop-digit.digit-index c.loop-digit.value _ c.loop-digit.invariant
    c.loop-digit-test.true c.requires refl (sym c.is_ascii_digit.ensures.value ∙ c.if-not-is_ascii_digit.false)

pub returns : goal.returns
returns c =
    reads_all c.args.digits.now c.loop-digit.digit-index c.loop-digit.value c.loop-digit.invariant
    c.loop-digit-test.false
