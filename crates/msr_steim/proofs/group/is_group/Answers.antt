use Rattle.std.proofs.Common.{rules}
use Rattle.msr_steim.proofs.group.is_group.Goals as goal

pub returns-then-differences-eq3 : goal.returns-then-differences-eq3
returns-then-differences-eq3 c = search rules

pub returns-in-Some : goal.returns-in-Some
returns-in-Some c = search rules
