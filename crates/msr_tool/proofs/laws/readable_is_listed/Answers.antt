use Rattle.msr_tool.proofs.Consequences.{readable_listed}
use Rattle.msr_tool.proofs.laws.readable_is_listed.Goals as goal

pub returns : goal.returns
returns c = readable_listed c.readable_has_no_fault.ensures
