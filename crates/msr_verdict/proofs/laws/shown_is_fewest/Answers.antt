use Rattle.msr_verdict.proofs.StoppedReading.{shown_fewest, shown_readable}
use Rattle.msr_verdict.proofs.laws.shown_is_fewest.Goals as goal

pub returns-clause-fewest : goal.returns-clause-fewest
returns-clause-fewest c = shown_fewest

pub returns-clause-readable : goal.returns-clause-readable
returns-clause-readable c = shown_readable
