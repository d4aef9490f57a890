use Rattle.std.proofs.Common.{rules}
use Rattle.msr_packer.proofs.held.HeldSamples.make_room.Goals as goal

pub returns-else-unneeded-len-clause-few : goal.returns-else-unneeded-len-clause-few
returns-else-unneeded-len-clause-few c = search rules
