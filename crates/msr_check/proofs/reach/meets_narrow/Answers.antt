use Rattle.std.proofs.Common.{rules}
use Rattle.msr_check.proofs.reach.meets_narrow.Goals as goal

pub returns-then-reach-start : goal.returns-then-reach-start
returns-then-reach-start c = search rules
