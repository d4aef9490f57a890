use Rattle.std.proofs.Common.{◌≡◌, length}
use Rattle.msr_tree.specs.Listing.{has_folder}
use Rattle.msr_tree.specs.Memory.{steps_kept}
use Rattle.msr_tree.proofs.memory.listing.has_folder.Given as goal

abbrev pub decreases-loop-deed : goal.decreases-loop-deed
decreases-loop-deed l = length l.rest

abbrev pub invariant-loop-deed : goal.invariant-loop-deed
invariant-loop-deed l = has_folder (steps_kept l.rest) l.path ≡ has_folder (steps_kept l.deeds) l.path
