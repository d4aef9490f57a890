use Rattle.std.proofs.Common.{rules}
use Rattle.msr_folders.proofs.paths.join.Goals as goal

pub returns : goal.returns
returns c = search rules
