use Rattle.std.proofs.Common.{◌≡◌, length}
use denote.Shadow.{shadow}
use denote.Text.{Utf8}
use Rattle.msr_tree.specs.Memory.{steps_kept}
use Rattle.msr_tree.specs.Steps.{now}
use Rattle.msr_tree.proofs.memory.deeds.find.Given as goal

abbrev pub decreases-loop-deed : goal.decreases-loop-deed
decreases-loop-deed l = length l.rest

abbrev pub invariant-loop-deed : goal.invariant-loop-deed
invariant-loop-deed l = shadow (Utf8 l.wanted) × (now (steps_kept l.rest) l.wanted ≡ now (steps_kept l.deeds) l.name)
