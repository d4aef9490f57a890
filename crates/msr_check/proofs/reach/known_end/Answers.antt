use Rattle.std.proofs.Common.{rules}
use Rattle.msr_check.proofs.reach.known_end.Goals as goal

pub returns : goal.returns
returns c = search rules
