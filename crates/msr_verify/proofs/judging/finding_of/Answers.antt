use Rattle.std.proofs.Common.{rules}
use Rattle.msr_verify.proofs.judging.finding_of.Goals as goal

pub returns-in-Ok-Some-Differ : goal.returns-in-Ok-Some-Differ
returns-in-Ok-Some-Differ c = search rules
