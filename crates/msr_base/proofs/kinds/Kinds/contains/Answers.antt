use Rattle.std.proofs.Common.{rules}
use Rattle.msr_base.proofs.kinds.Kinds.contains.Goals as goal

pub returns-in-WithoutInt24 : goal.returns-in-WithoutInt24
returns-in-WithoutInt24 c = search rules
