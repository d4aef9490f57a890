use Rattle.std.proofs.Common.{rules}
use Rattle.msr_options.proofs.options.Options.kinds.Goals as goal

pub returns : goal.returns
returns c = search rules
