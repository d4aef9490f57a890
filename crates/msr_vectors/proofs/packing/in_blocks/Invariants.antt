-- At most as many samples were pushed as stand before the next block.
use Rattle.std.proofs.Common.{◌≤◌, ◌-◌, length}
use Rattle.msr_packer.specs.Blocks.{pushed}
use Rattle.msr_vectors.proofs.packing.in_blocks.Given as goal

abbrev pub invariant-loop-from : goal.invariant-loop-from
invariant-loop-from l = (pushed l.packer ≤ l.from) × (l.from ≤ length l.samples)

abbrev pub decreases-loop-from : goal.decreases-loop-from
decreases-loop-from l = length l.samples - l.from
