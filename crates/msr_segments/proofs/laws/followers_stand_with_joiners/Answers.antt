use Rattle.msr_segments.proofs.StepLaws.{stand_together}
use Rattle.msr_segments.proofs.laws.followers_stand_with_joiners.Goals as goal

pub returns : goal.returns
returns c = stand_together
