use Rattle.std.proofs.Common.{rules}
use Rattle.msr_base.proofs.kinds.Kind.storage.Goals as goal

pub returns-in-Int24 : goal.returns-in-Int24
returns-in-Int24 c = search rules
