use Rattle.std.proofs.Common.{rules}
use Rattle.msr_time.proofs.rate.Rate.period.Goals as goal

pub returns-clause-value : goal.returns-clause-value
returns-clause-value c = search rules
