use Rattle.msr_tool.proofs.Consequences.{strict_writes}
use Rattle.msr_tool.proofs.laws.strict_writes_the_same.Goals as goal

pub returns : goal.returns
returns c = strict_writes
