use Rattle.std.proofs.Common.{refl, true}
use Rattle.msr_walk.proofs.EntriesTold.{none_among}
use Rattle.msr_walk.proofs.Ours.{wait_none}
use Rattle.msr_walk.proofs.Visited.{visited_left}
use Rattle.msr_walk.proofs.Working.{goes_settled}
use Rattle.msr_walk.proofs.folders.WalkerEntryVisitor.leave_folder.Goals as goal

pub returns-clause-told : goal.returns-clause-told
returns-clause-told g c =
    let archive = c.args.self.now.archive.now in
    visited_left (λ of. of.tally) archive c.args._folder.now
    (g.T.Tree.went c.args.tree.now) (g.T.Tree.went c.settle.new.tree) (g.O.Sink.device c.args._out.now) _ _ _ c.settle.ensures.works
    (none_among (λ of. of.tally) archive (g.O.Sink.device c.args._out.now) _ _ refl)

pub returns-clause-does : goal.returns-clause-does
returns-clause-does g c = goes_settled c.args.self.now.archive.now true _ _ _ c.settle.ensures.works

pub returns-clause-holds : goal.returns-clause-holds
returns-clause-holds g c = wait_none c.args.self.now.archive.now _ _ _ c.settle.ensures.days
