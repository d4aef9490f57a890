use Rattle.std.proofs.Common.{rules}
use Rattle.msr_packer.proofs.held.piece_of.Goals as goal

pub returns : goal.returns
returns c = search rules
