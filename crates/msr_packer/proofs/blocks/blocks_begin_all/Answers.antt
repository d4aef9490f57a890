use Rattle.msr_packer.proofs.Holding.{begins_all}
use Rattle.msr_packer.proofs.blocks.blocks_begin_all.Goals as goal

pub returns : goal.returns
returns c = λ records samples runs separators packer enough p. begins_all records enough samples runs separators
    packer.held packer.offset packer.current p.holds p.stays
