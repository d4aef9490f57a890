use Rattle.std.proofs.Common.{rules}
use Rattle.msr_rows.proofs.samples.SamplesIterator.next.Goals as goal

pub returns-clause-steps : goal.returns-clause-steps
returns-clause-steps c = search rules
