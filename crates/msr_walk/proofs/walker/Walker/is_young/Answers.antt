use Rattle.msr_making.proofs.Sights.{goes_nothing}
use Rattle.msr_walk.proofs.walker.Walker.is_young.Goals as goal

pub returns-in_err-input-clause-goes : goal.returns-in_err-input-clause-goes
returns-in_err-input-clause-goes g c = goes_nothing _

pub returns-then-archive-eq0-clause-goes : goal.returns-then-archive-eq0-clause-goes
returns-then-archive-eq0-clause-goes g c = goes_nothing _
