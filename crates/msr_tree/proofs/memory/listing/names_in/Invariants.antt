use Rattle.std.proofs.Common.{length}
use Rattle.msr_tree.specs.Listing.{listed}
use Rattle.msr_tree.specs.Memory.{steps_kept}
use Rattle.msr_tree.proofs.Names.{AreNamed}
use Rattle.msr_tree.proofs.memory.listing.names_in.Given as goal

abbrev pub decreases-loop-deed : goal.decreases-loop-deed
decreases-loop-deed l = length l.rest

-- the names that the steps after the rest gave
abbrev pub invariant-loop-deed : goal.invariant-loop-deed
invariant-loop-deed l = AreNamed (steps_kept l.deeds) (steps_kept l.rest) l.folder (listed l.names.items)
