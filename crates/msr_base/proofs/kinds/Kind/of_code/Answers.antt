use Rattle.std.proofs.Common.{rules}
use Rattle.msr_base.proofs.kinds.Kind.of_code.Goals as goal

pub returns-in-10 : goal.returns-in-10
returns-in-10 c = search rules
