use Rattle.std.proofs.Common.{rules}
use Rattle.msr_options.proofs.task.Folders.are_apart_from.Goals as goal

pub returns : goal.returns
returns c = search rules
