use Rattle.std.proofs.Common.{rules}
use Rattle.msr_base.proofs.samples.SampleVec.into_places.Goals as goal

pub returns : goal.returns
returns c = search rules
