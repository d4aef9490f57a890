use Rattle.msr_folders.proofs.ReadingLemmas.{visits_nothing}
use Rattle.msr_verify.proofs.VisitedLemmas.{none_told_yet}
use Rattle.msr_verify.proofs.visitors.SearchingEntryVisitor.enter_folder.Goals as goal

pub returns-clause-told : goal.returns-clause-told
returns-clause-told g c =
    (none_told_yet c.args.self.now.archive.now (g.O.Sink.device c.args._out.now) c.args._tally.now, visits_nothing (g.T.Tree.went c.args._tree.now))

pub returns-clause-does : goal.returns-clause-does
returns-clause-does g c = visits_nothing (g.T.Tree.went c.args._tree.now)
