use Rattle.std.proofs.Common.{rules}
use Rattle.msr_time.proofs.btime.BTime.has_instant.Goals as goal

pub returns-then-self-gt23 : goal.returns-then-self-gt23
returns-then-self-gt23 c = search rules
