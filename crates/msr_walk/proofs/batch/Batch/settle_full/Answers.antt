use Rattle.msr_walk.proofs.Ours.{wait_none}
use Rattle.msr_walk.proofs.Working.{goes_waiting_none, settles_waiting}
use Rattle.msr_walk.proofs.batch.Batch.settle_full.Goals as goal

pub returns-then-len-lt-DAYS-clause-works : goal.returns-then-len-lt-DAYS-clause-works
returns-then-len-lt-DAYS-clause-works g c = goes_waiting_none c.args.walker.now.archive.now _

pub returns-clause-days : goal.returns-clause-days
returns-clause-days g c = wait_none c.args.walker.now.archive.now _ _ _ c.settle.ensures.days

pub returns-clause-works : goal.returns-clause-works
returns-clause-works g c = settles_waiting c.args.walker.now.archive.now _ _ _ c.settle.ensures.works
