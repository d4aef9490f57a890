use Rattle.std.proofs.Common.{◌≡◌, ◌+◌, ◌-◌, ◌*◌, ◌-ℤ◌, ◌≤ℤ◌, arith, to_z-of_z, unsigned_abs}
use Rattle.jiff_core.proofs.SignedLemmas.{signed_arith, one_part}
use Rattle.msr_time.proofs.NominalLemmas.{nominal_exists}
use Rattle.msr_folders.proofs.Counting.{after_start, from_count}
use Rattle.msr_folders.proofs.times.first_from.Goals as goal
use borrow.Author.Differences.{up, down}

pub returns-then-from-start-clause-count : goal.returns-then-from-start-clause-count
returns-then-from-start-clause-count c = λ n r is.
    let early : c.args.from ≤ℤ c.args.start = omega (arith, signed_arith, c.if-from-start.true) in
    (λ le. omega arith, λ le. after_start c.args.rate c.args.start c.args.from n r is early)

pub returns-then-from-start-clause-each : goal.returns-then-from-start-clause-each
returns-then-from-start-clause-each c = λ n.
    nominal_exists c.args.rate c.args.start n c.period-numerator.result c.period-numerator.ensures.value c.period-numerator.ensures.not_zero.1

pub returns-clause-count : goal.returns-clause-count
returns-clause-count c = λ n r is.
    let value = c.period-numerator.ensures.value in
    let some = rw value at c.period-numerator.ensures.not_zero.0 in
    let gap = c.abs_diff.result in
    let diff : gap ≡ unsigned_abs (c.args.from -ℤ c.args.start) = rw (to_z-of_z c.ranges.from, to_z-of_z c.ranges.start) at c.abs_diff.ensures in
    let apart : up c.args.from + down c.args.start ≡ down c.args.from + up c.args.start + gap =
    omega (arith, signed_arith, one_part (c.args.from -ℤ c.args.start), diff, c.if-from-start.false) in
    let twice : 2 * gap ≡ (2 * gap - 1) + 1 = omega (arith, signed_arith, apart, c.if-from-start.false) in
    rw value (from_count c.args.rate c.args.start c.args.from n r is gap (2 * gap - 1) (omega (arith, some)) apart twice)

pub returns-clause-each : goal.returns-clause-each
returns-clause-each c = λ n.
    nominal_exists c.args.rate c.args.start n c.period-numerator.result c.period-numerator.ensures.value c.period-numerator.ensures.not_zero.1
