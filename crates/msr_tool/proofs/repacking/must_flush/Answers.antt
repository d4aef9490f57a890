use Rattle.std.proofs.Common.{rules}
use Rattle.msr_tool.proofs.repacking.must_flush.Goals as goal

pub returns-then-eq-clause-before_reads : goal.returns-then-eq-clause-before_reads
returns-then-eq-clause-before_reads c = search rules
