use Rattle.std.proofs.Common.{length}
use Rattle.msr_tree.specs.Memory.{file_of, steps_kept}
use Rattle.msr_tree.specs.Steps.{IsStored}
use Rattle.msr_tree.proofs.memory.crash.is_stored.Given as goal

abbrev pub decreases-loop-deed : goal.decreases-loop-deed
decreases-loop-deed l = length l.rest

abbrev pub invariant-loop-deed : goal.invariant-loop-deed
invariant-loop-deed l = IsStored (steps_kept l.deeds) (file_of l.file) → IsStored (steps_kept l.rest) (file_of l.file)
