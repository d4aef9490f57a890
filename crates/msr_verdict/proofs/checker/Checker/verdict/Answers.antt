use Rattle.msr_verdict.proofs.StoppedReading.{verdict_seen}
use Rattle.msr_verdict.proofs.checker.Checker.verdict.Goals as goal

pub returns : goal.returns
returns c = λ report input all. verdict_seen report _ input _ _ _ all c.end.ensures c.verdict.ensures
