use Rattle.msr_packer.proofs.Holding.{leaves_few}
use Rattle.msr_packer.proofs.blocks.blocks_leave_few.Goals as goal

pub returns : goal.returns
returns c = λ records samples runs separators packer p few. leaves_few records samples runs separators packer.held
    packer.offset packer.current p.holds (rw p.of_form at few)
