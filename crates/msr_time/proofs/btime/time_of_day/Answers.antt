use Rattle.std.proofs.Common.{rules}
use Rattle.msr_time.proofs.btime.time_of_day.Goals as goal

pub returns-clause-sum : goal.returns-clause-sum
returns-clause-sum c = search rules
