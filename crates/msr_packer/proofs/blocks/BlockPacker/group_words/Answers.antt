use Rattle.msr_packer.proofs.ToldSizes.{shows_words}
use Rattle.msr_packer.proofs.blocks.BlockPacker.group_words.Goals as goal

pub returns-clause-words : goal.returns-clause-words
returns-clause-words c =
    rw (← c.self.view_is, c.as_slice.ensures.value)
    (shows_words c.self.inside.held c.self.invariant.0 c.self.invariant.1)
