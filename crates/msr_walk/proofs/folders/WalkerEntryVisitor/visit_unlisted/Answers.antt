use Rattle.msr_folders.proofs.WalkedLemmas.{on_ok_as}
use Rattle.msr_walk.proofs.Visited.{visited_unlisted}
use Rattle.msr_walk.proofs.Working.{goes_works_none}
use Rattle.msr_walk.proofs.folders.WalkerEntryVisitor.visit_unlisted.Goals as goal

pub returns-clause-told : goal.returns-clause-told
returns-clause-told g c =
    on_ok_as c.tell.result (λ told. visited_unlisted (λ of. of.tally) c.args.self.now.archive.now c.args.folder.now c.told_folder.result.now
    (g.T.Tree.went c.args.tree.now) (g.O.Sink.device c.args.out.now) (g.O.Sink.device c.tell.new.out) c.args.progress.now c.tell.new.progress
    c.told_folder.ensures told) (c.tell.ensures.told tt)

pub returns-clause-stops : goal.returns-clause-stops
returns-clause-stops g c = c.tell.ensures.stops tt

pub returns-clause-does : goal.returns-clause-does
returns-clause-does g c = goes_works_none c.args.self.now.archive.now _ _
