-- The distance is the quotient rounded up of what lies between, by the denominator of the period.
use Rattle.std.proofs.Common.{ap, ◌*◌, ◌∙◌, arith, unsigned_abs}
use Rattle.msr_time.proofs.RateLemmas.{gap_from_bits, span_bound}
use Rattle.msr_compare.proofs.Distances.{none_apart, product_fits, tells_distance}
use Rattle.msr_compare.proofs.tally.distance.Goals as goal

pub overflow_mul-gap : goal.overflow_mul-gap
overflow_mul-gap c = product_fits c.args.t c.args.t0 _ c.ranges.t c.ranges.t0 c.period-numerator.ensures.denominator

pub overflow_sub-gap-2 : goal.overflow_sub-gap-2
overflow_sub-gap-2 c =
    (gap_from_bits c.args.t c.args.t0 _ _ c.ranges.t c.ranges.t0 c.period-numerator.ensures.denominator
    (span_bound c.args.n _ (omega arith) c.period-numerator.ensures.numerator)).1

pub returns-then-apart-eq0 : goal.returns-then-apart-eq0
returns-then-apart-eq0 c =
    let span = span_bound c.args.n c.period-numerator.result.0 (omega arith) c.period-numerator.ensures.numerator in
    let gap = gap_from_bits c.args.t c.args.t0 c.period-numerator.result.1
    (c.args.n * c.period-numerator.result.0) c.ranges.t c.ranges.t0 c.period-numerator.ensures.denominator span in
    tells_distance c.args.rate c.args.t0 c.args.n c.args.t c.period-numerator.result c.unsigned_abs-apart.result
    0 c.period-numerator.ensures.value c.period-numerator.ensures.not_zero.1
    (c.unsigned_abs-apart.ensures.value ∙ ap unsigned_abs gap.2)
    (none_apart c.unsigned_abs-apart.result c.period-numerator.result.1 c.period-numerator.ensures.not_zero.1 c.if-apart-eq0.true)

pub returns : goal.returns
returns c =
    let span = span_bound c.args.n c.period-numerator.result.0 (omega arith) c.period-numerator.ensures.numerator in
    let gap = gap_from_bits c.args.t c.args.t0 c.period-numerator.result.1
    (c.args.n * c.period-numerator.result.0) c.ranges.t c.ranges.t0 c.period-numerator.ensures.denominator span in
    tells_distance c.args.rate c.args.t0 c.args.n c.args.t c.period-numerator.result c.unsigned_abs-apart.result
    c.min.result c.period-numerator.ensures.value c.period-numerator.ensures.not_zero.1
    (c.unsigned_abs-apart.ensures.value ∙ ap unsigned_abs gap.2) c.min.ensures
