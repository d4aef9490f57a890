use Rattle.msr_folders.proofs.ReadingLemmas.{visits_nothing}
use Rattle.msr_trial.proofs.Told.{visited_left}
use Rattle.msr_trial.proofs.walk.TrierEntryVisitor.leave_folder.Goals as goal

pub returns-clause-told : goal.returns-clause-told
returns-clause-told g c = visited_left c.args.self.now.asked.now.days c.args.self.now.asked.now.root.now c.args._folder.now
    (g.T.Tree.went c.args._tree.now) (g.O.Sink.device c.args._out.now) c.args._tally.now

pub returns-clause-does : goal.returns-clause-does
returns-clause-does g c = visits_nothing (g.T.Tree.went c.args._tree.now)
