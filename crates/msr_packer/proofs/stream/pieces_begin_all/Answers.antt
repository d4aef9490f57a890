use Rattle.msr_packer.proofs.Holding.{begins_all}
use Rattle.msr_packer.proofs.stream.pieces_begin_all.Goals as goal

pub returns : goal.returns
returns c = λ records samples runs separators packer enough s. begins_all records enough samples runs separators
    packer.held packer.offset packer.current s.packs.holds s.packs.stays
