use Rattle.msr_segments.proofs.StepLaws.{overruns_out}
use Rattle.msr_segments.proofs.laws.overruns_are_out_of_range.Goals as goal

pub returns : goal.returns
returns c = overruns_out
