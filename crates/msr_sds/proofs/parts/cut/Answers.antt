use Rattle.std.proofs.Common.{arith}
use Rattle.msr_sds.proofs.CutLemmas.{cut_only}
use Rattle.msr_sds.proofs.parts.cut.Goals as goal

pub returns-clause-only : goal.returns-clause-only
returns-clause-only c = cut_only _ _ _ c.split_once.ensures.cases (omega arith)
