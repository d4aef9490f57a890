use Rattle.std.proofs.Common.{to_z-of_z, FitsSigned, rules}
use Rattle.std.specs.Int.{w128}
use Rattle.msr_time.proofs.RateLemmas.{instant_from_tests}
use Rattle.msr_time.proofs.NominalLemmas.{nominal_one}
use Rattle.msr_time.proofs.rate.Rate.nominal.Goals as goal

pub returns-clause-found : goal.returns-clause-found
returns-clause-found c =
    let nominal = rw (to_z-of_z c.ranges.t0) at c.rounded-instant.ensures.nominal in
    let fits : FitsSigned w128 c.rounded-instant.result = search rules in
    let back = to_z-of_z fits in
    let low = rw back at c.if-instant.false in
    let high = rw back at c.if-instant-2.false in
    (c.rounded-instant.result, nominal, rw back (instant_from_tests c.rounded-instant.result low high))

pub returns-clause-only : goal.returns-clause-only
returns-clause-only c = λ r nominal.
    let found = returns-clause-found c in
    rw (nominal_one c.args.self.now c.args.t0 c.args.n r found.0 nominal found.1) found.2

pub returns-then-instant-clause-found : goal.returns-then-instant-clause-found
returns-then-instant-clause-found c = search rules

pub returns-then-instant-clause-only : goal.returns-then-instant-clause-only
returns-then-instant-clause-only c = λ r nominal within.
    let found = returns-then-instant-clause-found c in
    found.2 (rw (nominal_one c.args.self.now c.args.t0 c.args.n found.0 r found.1 nominal) within)

pub returns-clause-few : goal.returns-clause-few
returns-clause-few c = λ first some.
    let fits : FitsSigned w128 c.rounded-instant.result = search rules in
    let back = to_z-of_z fits in
    let few = rw (to_z-of_z c.ranges.t0) at c.rounded-instant.ensures.few in
    let low = rw back at c.if-instant.false in
    let high = rw back at c.if-instant-2.false in
    few first (instant_from_tests c.rounded-instant.result low high).0
