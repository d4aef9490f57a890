-- The groups that are left.
use Rattle.std.proofs.Common.{length}
use Rattle.msr_vectors.proofs.areas.+are_groups.Given as goal

abbrev pub decreases-are_groups : goal.decreases-are_groups
decreases-are_groups l = length l.groups.now
