use Rattle.msr_tree.specs.Calls.{Goes}
use Rattle.msr_naming.specs.Naming.{act_step}
use Rattle.msr_naming.proofs.Plan.{SoFar}
use Rattle.msr_naming.proofs.naming.perform.Given as goal

abbrev pub invariant-loop-act : goal.invariant-loop-act
invariant-loop-act g l = Goes (g.T.Tree.went l.fn.tree) (g.T.Tree.went l.tree) (SoFar (act_step l.files) l.acts l.act-index)
