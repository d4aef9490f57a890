use Rattle.msr_tree.specs.Calls.{Goes}
use Rattle.msr_walk.specs.Waiting.{parts_waiting}
use Rattle.msr_walk.specs.Told.{SettlesNames}
use Rattle.msr_walk.proofs.batch.release_all.Given as goal

-- only names beside those of their stamps were changed
abbrev pub invariant-loop-day : goal.invariant-loop-day
invariant-loop-day g l = Goes (g.T.Tree.went l.fn.tree) (g.T.Tree.went l.tree) (SettlesNames l.fn.walker.archive.now (parts_waiting l.fn.days))
