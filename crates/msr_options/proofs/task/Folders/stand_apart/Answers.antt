use Rattle.std.proofs.Common.{rules}
use Rattle.msr_options.proofs.task.Folders.stand_apart.Goals as goal

pub returns : goal.returns
returns c = search rules
