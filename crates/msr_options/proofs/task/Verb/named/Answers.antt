use Rattle.std.proofs.Common.{rules}
use Rattle.msr_options.proofs.task.Verb.named.Goals as goal

pub returns-in-repack : goal.returns-in-repack
returns-in-repack c = search rules
