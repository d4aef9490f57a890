use Rattle.std.proofs.Common.{length, Option}
use Rattle.msr_tree.specs.Memory.{steps_kept}
use Rattle.msr_tree.specs.Steps.{File, MayLead}
use Rattle.msr_tree.proofs.memory.crash.lead.Given as goal

abbrev pub decreases-loop-deed : goal.decreases-loop-deed
decreases-loop-deed l = length l.rest

abbrev pub invariant-loop-deed : goal.invariant-loop-deed
invariant-loop-deed l = (found : Option File) → MayLead (steps_kept l.rest) l.name found → MayLead (steps_kept l.deeds) l.name found
