use Rattle.msr_compare.proofs.SameInputs.{reflexive, symmetric, transitive}
use Rattle.msr_compare.proofs.laws.same_is_an_equivalence.Goals as goal

pub returns-clause-reflexive : goal.returns-clause-reflexive
returns-clause-reflexive c = reflexive

pub returns-clause-symmetric : goal.returns-clause-symmetric
returns-clause-symmetric c = symmetric

pub returns-clause-transitive : goal.returns-clause-transitive
returns-clause-transitive c = transitive
