use Rattle.std.proofs.Common.{arith, rules, get_or, pos, FitsSigned, w32}
use Rattle.msr_segments.proofs.UnequalLemmas.{unequal_so}
use Rattle.msr_segments.proofs.unequal.first_unequal.Goals as goal

pub returns-then-one-other : goal.returns-then-one-other
returns-then-one-other c =
    let fits : FitsSigned w32 (get_or c.args.ones.now c.samples.at (pos 0)) = search rules in
    let other_fits : FitsSigned w32 (get_or c.args.others.now c.samples.at (pos 0)) = search rules in
    unequal_so c.args.ones.now c.args.others.now c.samples.at c.samples.invariant (omega arith) (omega arith) fits
    other_fits c.if-one-other.true
