use Rattle.std.proofs.Common.{ap, ℕ}
use Rattle.msr_time.proofs.NominalLemmas.{nominal_exists, nominal_few, reaches_tested}
use Rattle.msr_time.proofs.rate.Rate.reaches.Goals as goal

pub returns-clause-only : goal.returns-clause-only
returns-clause-only c = λ r nominal.
    reaches_tested c.args.self.now c.args.t0 c.args.n c.period-numerator.result r c.period-numerator.ensures.value
    c.ranges.t0 c.requires nominal

pub returns-clause-found : goal.returns-clause-found
returns-clause-found c =
    let one = nominal_exists c.args.self.now c.args.t0 c.args.n c.period-numerator.result
    c.period-numerator.ensures.value c.period-numerator.ensures.not_zero.1 in
    (one.0, one.1, returns-clause-only c one.0 one.1)

pub returns-clause-few : goal.returns-clause-few
returns-clause-few c = λ reached.
    let found = returns-clause-found c in
    let small = rw (ap (λ (f : ℕ × ℕ). f.1) c.period-numerator.ensures.value) at
    c.period-numerator.ensures.denominator in
    nominal_few c.args.self.now c.args.t0 c.args.n found.0 small c.requires (found.2.0 reached) found.1
