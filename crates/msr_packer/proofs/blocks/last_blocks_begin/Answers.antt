use Rattle.msr_packer.proofs.InBlocks.{last_begin}
use Rattle.msr_packer.proofs.blocks.last_blocks_begin.Goals as goal

pub returns : goal.returns
returns c = λ records samples runs separators packer enough p. let r =
    last_begin records enough samples runs separators packer packer.ended p.left in (r.others, r.places, r.canonical)
