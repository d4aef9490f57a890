use Rattle.std.proofs.Common.{rules}
use Rattle.msr_options.proofs.hint.write_hint.Goals as goal

pub returns-clause-script : goal.returns-clause-script
returns-clause-script g c = search rules
