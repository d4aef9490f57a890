use Rattle.std.proofs.Common.{rules}
use Rattle.msr_check.proofs.judge.Judge.begin.Goals as goal

pub returns : goal.returns
returns c = search rules
