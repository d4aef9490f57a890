use Rattle.std.proofs.Common.{rules}
use Rattle.msr_options.proofs.files.hint_in.Goals as goal

pub returns-in-Ok-clause-begins : goal.returns-in-Ok-clause-begins
returns-in-Ok-clause-begins g c = search rules
