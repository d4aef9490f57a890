use Rattle.msr_making.proofs.Resumed.{stamped}
use Rattle.msr_making.proofs.laws.left_day_is_stamped.Goals as goal

pub returns : goal.returns
returns c = stamped
