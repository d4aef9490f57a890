use Rattle.std.proofs.Common.{rules}
use Rattle.msr_packer.proofs.stream.both.Goals as goal

pub returns-in-Some-last : goal.returns-in-Some-last
returns-in-Some-last c = search rules
