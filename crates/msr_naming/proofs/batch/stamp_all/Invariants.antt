use Rattle.msr_tree.specs.Calls.{Goes}
use Rattle.msr_naming.proofs.Plan.{SoFar}
use Rattle.msr_naming.proofs.Stamps.{stamping}
use Rattle.msr_naming.proofs.batch.stamp_all.Given as goal

abbrev pub invariant-loop-day : goal.invariant-loop-day
invariant-loop-day g l = Goes (g.T.Tree.went l.fn.tree) (g.T.Tree.went l.tree) (SoFar (λ day. stamping day.files) l.days l.day-index)
