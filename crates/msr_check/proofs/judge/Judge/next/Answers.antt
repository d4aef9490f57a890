use Rattle.std.proofs.Common.{rules}
use Rattle.msr_check.proofs.judge.Judge.next.Goals as goal

pub returns-then-self-separators : goal.returns-then-self-separators
returns-then-self-separators c = search rules
