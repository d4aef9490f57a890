-- As many samples were pushed as were looked at.
use Rattle.std.proofs.Common.{◌≡◌}
use Rattle.msr_packer.specs.Blocks.{pushed}
use Rattle.msr_vectors.proofs.growing.put_stream.Given as goal

abbrev pub invariant-loop-at : goal.invariant-loop-at
invariant-loop-at l = pushed l.packer ≡ l.at
