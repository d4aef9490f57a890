use Rattle.std.proofs.Common.{◌≡◌}
use Rattle.msr_packer.specs.Blocks.{pushed, steps_left}
use Rattle.msr_vectors.proofs.packing.add_decided.Given as goal

abbrev pub invariant-loop-piece : goal.invariant-loop-piece
invariant-loop-piece l = pushed l.packer ≡ pushed l.initial.packer

abbrev pub decreases-loop-piece : goal.decreases-loop-piece
decreases-loop-piece l = steps_left l.packer
