use Rattle.msr_tool.proofs.Consequences.{repacking_alone}
use Rattle.msr_tool.proofs.laws.one_repacking.Goals as goal

pub returns : goal.returns
returns c = repacking_alone c.one_list_of_records.ensures c.one_output.ensures
