use Rattle.msr_segments.proofs.Histories.{joined_none}
use Rattle.msr_segments.proofs.joiner.Joiner.new.Goals as goal

pub returns-clause-history : goal.returns-clause-history
returns-clause-history c = rw c.new.ensures.value (joined_none c.args.tolerance)
