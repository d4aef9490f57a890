use Rattle.msr_packer.specs.Blocks.{steps_left}
use Rattle.msr_vectors.proofs.packing.add_last.Given as goal

abbrev pub decreases-loop-piece : goal.decreases-loop-piece
decreases-loop-piece l = steps_left l.packer
