use Rattle.msr_tool.proofs.Consequences.{refusal_alone}
use Rattle.msr_tool.proofs.laws.one_refusal.Goals as goal

pub returns : goal.returns
returns c = refusal_alone c.one_first_fault.ensures
