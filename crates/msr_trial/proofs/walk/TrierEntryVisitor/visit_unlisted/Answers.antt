use Rattle.msr_folders.proofs.ReadingLemmas.{visits_nothing}
use Rattle.msr_folders.proofs.WalkedLemmas.{on_ok_as}
use Rattle.msr_trial.proofs.Told.{visited_unlisted}
use Rattle.msr_trial.proofs.walk.TrierEntryVisitor.visit_unlisted.Goals as goal

pub returns-clause-told : goal.returns-clause-told
returns-clause-told g c =
    on_ok_as c.tell.result (λ told. visited_unlisted c.args.self.now.asked.now.days c.args.self.now.asked.now.root.now c.args.folder.now c.told_folder.result.now
    (g.T.Tree.went c.args.tree.now) (g.O.Sink.device c.args.out.now) (g.O.Sink.device c.tell.new.out) c.args.tally.now c.tell.new.tally
    c.told_folder.ensures told) (c.tell.ensures.told tt)

pub returns-clause-stops : goal.returns-clause-stops
returns-clause-stops g c = c.tell.ensures.stops tt

pub returns-clause-does : goal.returns-clause-does
returns-clause-does g c = visits_nothing _
