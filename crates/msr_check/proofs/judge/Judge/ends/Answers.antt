use Rattle.std.proofs.Common.{rules}
use Rattle.msr_check.proofs.judge.Judge.ends.Goals as goal

pub returns-then-are_as_many : goal.returns-then-are_as_many
returns-then-are_as_many c = search rules
