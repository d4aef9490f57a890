use Rattle.std.proofs.Common.{rules}
use Rattle.msr_verify.proofs.judging.alone_of.Goals as goal

pub returns-in-Ok-NotShown : goal.returns-in-Ok-NotShown
returns-in-Ok-NotShown c = search rules
