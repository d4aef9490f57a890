use Rattle.std.proofs.Common.{length}
use Rattle.msr_tree.specs.Memory.{steps_kept}
use Rattle.msr_tree.specs.Steps.{IsAtRest, Path}
use Rattle.msr_tree.proofs.Deeds.{Sees}
use Rattle.msr_tree.proofs.memory.tree.MemoryTree.crash.Given as goal

abbrev pub decreases-loop-deed : goal.decreases-loop-deed
decreases-loop-deed l = length l.rest

abbrev pub invariant-loop-deed : goal.invariant-loop-deed
invariant-loop-deed l = record { rests : IsAtRest l.after; sees : (name : Path) → Sees l.self (steps_kept l.rest) l.after name }
