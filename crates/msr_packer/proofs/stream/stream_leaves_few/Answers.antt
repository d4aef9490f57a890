use Rattle.msr_packer.proofs.Holding.{leaves_few}
use Rattle.msr_packer.proofs.stream.stream_leaves_few.Goals as goal

pub returns : goal.returns
returns c = λ records samples runs separators packer s. leaves_few records samples runs separators packer.held
    packer.offset packer.current s.packs.holds (rw s.packs.of_form at s.behind)
