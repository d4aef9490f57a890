use Rattle.msr_packer.proofs.Canonical.{one_packing}
use Rattle.msr_packer.proofs.one_packing.Goals as goal

pub returns : goal.returns
returns c records samples runs others separators places first second =
    one_packing records samples runs others separators places first second
