use Rattle.msr_tool.proofs.ShownLeast.{repacked_shown}
use Rattle.msr_tool.proofs.laws.repacked_is_shown.Goals as goal

pub returns : goal.returns
returns c = repacked_shown c.one_list_of_records.ensures
