use Rattle.msr_making.specs.Clearing.{beside_paths}
use Rattle.msr_tree.specs.Calls.{Goes}
use Rattle.msr_walk.specs.Handling.{ChangesNames}
use Rattle.msr_walk.proofs.day.Day.claim.Given as goal

-- only names beside those of the day lead elsewhere
abbrev pub invariant-loop : goal.invariant-loop
invariant-loop g l = Goes (g.T.Tree.went l.fn.tree) (g.T.Tree.went l.tree) (ChangesNames beside_paths l.self)
