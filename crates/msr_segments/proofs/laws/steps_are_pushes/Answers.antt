use Rattle.msr_segments.proofs.StepLaws.{steps_push, pushes_grow}
use Rattle.msr_segments.proofs.laws.steps_are_pushes.Goals as goal

pub returns-clause-steps : goal.returns-clause-steps
returns-clause-steps c = steps_push

pub returns-clause-pushes : goal.returns-clause-pushes
returns-clause-pushes c = pushes_grow
