use Rattle.std.proofs.Common.{◌++◌, reverse, vec_len}
use Rattle.msr_naming.specs.Promise.{stamp_paths}
use Rattle.msr_tree.specs.Calls.{Goes}
use Rattle.msr_walk.specs.Waiting.{AreOfDaysAt, AreSome, SomeWait, files_waiting}
use Rattle.msr_walk.specs.Told.{SettlesNames}
use Rattle.msr_walk.proofs.batch.all_ours.Given as goal

abbrev pub decreases-loop-day : goal.decreases-loop-day
decreases-loop-day g l = vec_len l.days

-- those that are left wait, and before them those that are kept; only names of their stamps were changed
abbrev pub invariant-loop-day : goal.invariant-loop-day
invariant-loop-day g l = AreOfDaysAt (g.T.Tree.went l.tree) l.fn.walker.archive.now l.days.items
    × AreSome l.fn.days.items (l.days.items ++ reverse l.ours.items)
    × SomeWait (g.T.Tree.went l.fn.tree) (g.T.Tree.went l.tree) l.fn.walker.archive.now l.fn.days.items (l.days.items ++ reverse l.ours.items)
    × Goes (g.T.Tree.went l.fn.tree) (g.T.Tree.went l.tree) (SettlesNames l.fn.walker.archive.now (stamp_paths (files_waiting l.fn.days.items)))
