use Rattle.msr_tool.proofs.Consequences.{readable_repacked}
use Rattle.msr_tool.proofs.laws.readable_is_repacked.Goals as goal

pub returns : goal.returns
returns c = readable_repacked c.readable_has_no_fault.ensures
