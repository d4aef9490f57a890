use Rattle.std.proofs.Common.{rules}
use Rattle.msr_check.proofs.judge.is_followed.Goals as goal

pub returns-then-is_run : goal.returns-then-is_run
returns-then-is_run c = search rules
