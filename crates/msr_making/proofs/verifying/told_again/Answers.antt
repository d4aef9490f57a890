use Rattle.msr_making.proofs.Sights.{goes_nothing}
use Rattle.msr_making.proofs.verifying.told_again.Goals as goal

pub returns-in_default-clause-goes : goal.returns-in_default-clause-goes
returns-in_default-clause-goes g c = goes_nothing _

pub returns-in_default-2-clause-goes : goal.returns-in_default-2-clause-goes
returns-in_default-2-clause-goes g c = goes_nothing _

pub returns-in_default-3-clause-goes : goal.returns-in_default-3-clause-goes
returns-in_default-3-clause-goes g c = goes_nothing _
