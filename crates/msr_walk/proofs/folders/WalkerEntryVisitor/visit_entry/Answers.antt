use Rattle.msr_folders.proofs.WalkedLemmas.{on_ok_as}
use Rattle.msr_walk.proofs.Visited.{visited_gone}
use Rattle.msr_walk.proofs.Working.{goes_works_none}
use Rattle.msr_walk.proofs.folders.WalkerEntryVisitor.visit_entry.Goals as goal

pub returns-in-Gone-clause-told : goal.returns-in-Gone-clause-told
returns-in-Gone-clause-told g c =
    on_ok_as c.tell.result (λ told. visited_gone (λ of. of.tally) c.args.self.now.archive.now c.args.path.now c.args.kind
    (g.T.Tree.went c.args.tree.now) (g.O.Sink.device c.args.out.now) (g.O.Sink.device c.tell.new.out) c.args.progress.now c.tell.new.progress
    c.in-Gone.is told) (c.tell.ensures.told tt)

pub returns-in-Gone-clause-stops : goal.returns-in-Gone-clause-stops
returns-in-Gone-clause-stops g c = c.tell.ensures.stops tt

pub returns-in-Gone-clause-does : goal.returns-in-Gone-clause-does
returns-in-Gone-clause-does g c = goes_works_none c.args.self.now.archive.now _ _

pub returns-in_default-clause-told : goal.returns-in_default-clause-told
returns-in_default-clause-told g c = c.visit_found.ensures.told c.args.kind c.in_default.not-Gone
