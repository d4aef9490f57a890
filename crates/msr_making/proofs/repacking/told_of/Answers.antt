use Rattle.std.proofs.Common.{rules}
use Rattle.msr_making.proofs.repacking.told_of.Goals as goal

pub returns-in-Ok-Some-Differ : goal.returns-in-Ok-Some-Differ
returns-in-Ok-Some-Differ c = search rules
