use Rattle.std.proofs.Common.{rules}
use Rattle.msr_base.proofs.kinds.Kind.code.Goals as goal

pub returns-in-Steim1 : goal.returns-in-Steim1
returns-in-Steim1 c = search rules
