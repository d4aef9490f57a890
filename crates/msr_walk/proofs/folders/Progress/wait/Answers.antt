use Rattle.msr_walk.proofs.Working.{goes_waiting_none}
use Rattle.msr_walk.proofs.folders.Progress.wait.Goals as goal

pub returns-in_default-clause-works : goal.returns-in_default-clause-works
returns-in_default-clause-works g c = goes_waiting_none c.args.walker.now.archive.now _

pub add-requires-clause-day : goal.add-requires-clause-day
add-requires-clause-day g c = rw c.in-Some.is at c.requires.day
