use Rattle.std.proofs.Common.{false, true, []}
use Rattle.std.proofs.lemmas.Result.{err_from_is_err_and}
use Rattle.std.specs.Prelude.{is_ok}
use Rattle.msr_folders.proofs.WalkedLemmas.{does_both, does_visit, if_err_as, if_ok_as, opens_after, opens_passed, told_can_count}
use Rattle.msr_folders.proofs.entries.EntryWalk.open_folder.Goals as goal

pub returns-in_err-entered-clause-told : goal.returns-in_err-entered-clause-told
returns-in_err-entered-clause-told g c =
    let p = err_from_is_err_and c.from_residual.result c.from_residual.ensures.1 in rw p.1 tt

pub returns-in_err-entered-clause-does : goal.returns-in_err-entered-clause-does
returns-in_err-entered-clause-does g c =
    let p = err_from_is_err_and c.from_residual.result c.from_residual.ensures.1 in
    rw p.1 (does_visit g.V.EntryVisitor.tells g.V.EntryVisitor.stops g.V.EntryVisitor.says g.V.EntryVisitor.does g.V.EntryVisitor.between g.V.EntryVisitor.listless
    g.met.V.EntryVisitor.laws c.args.self.now.visitor.now c.args.self.now.root.now false
    (g.T.Tree.went c.args.tree.now) (g.T.Tree.went c.enter_folder.new.tree) c.in_err-entered.ensures.does)

pub returns-in_err-entered-clause-holds : goal.returns-in_err-entered-clause-holds
returns-in_err-entered-clause-holds g c = c.enter_folder.ensures.holds

pub returns-in_default-clause-told : goal.returns-in_default-clause-told
returns-in_default-clause-told g c =
    opens_passed g.V.EntryVisitor.tells g.V.EntryVisitor.stops g.V.EntryVisitor.says g.V.EntryVisitor.does g.V.EntryVisitor.between g.V.EntryVisitor.listless
    g.met.V.EntryVisitor.laws c.args.self.now.visitor.now c.args.self.now.root.now c.args.levels c.args.folder.now
    (g.T.Tree.went c.args.tree.now) (g.T.Tree.went c.enter_folder.new.tree)
    (g.O.Sink.device c.args.out.now) (g.O.Sink.device c.enter_folder.new.out) c.args.tally.now c.enter_folder.new.tally
    (rw c.in_default.is at c.in_ok-entered.ensures.told)

pub returns-in_default-clause-does : goal.returns-in_default-clause-does
returns-in_default-clause-does g c =
    does_visit g.V.EntryVisitor.tells g.V.EntryVisitor.stops g.V.EntryVisitor.says g.V.EntryVisitor.does g.V.EntryVisitor.between g.V.EntryVisitor.listless
    g.met.V.EntryVisitor.laws c.args.self.now.visitor.now c.args.self.now.root.now true
    (g.T.Tree.went c.args.tree.now) (g.T.Tree.went c.enter_folder.new.tree) c.in_ok-entered.ensures.does

pub returns-in_default-clause-holds : goal.returns-in_default-clause-holds
returns-in_default-clause-holds g c = c.enter_folder.ensures.holds

pub list_folder-requires-clause-count : goal.list_folder-requires-clause-count
list_folder-requires-clause-count g c =
    let entered = rw c.in-Some.is at c.in_ok-entered.ensures.told in
    told_can_count g.V.EntryVisitor.tells g.V.EntryVisitor.stops g.V.EntryVisitor.says g.V.EntryVisitor.does g.V.EntryVisitor.between g.V.EntryVisitor.listless
    g.met.V.EntryVisitor.laws c.args.self.now.visitor.now c.args.self.now.root.now [] (g.O.Sink.device c.args.out.now)
    (g.O.Sink.device c.enter_folder.new.out) c.args.tally.now c.enter_folder.new.tally entered.0 c.requires.count

pub list_folder-requires-clause-root : goal.list_folder-requires-clause-root
list_folder-requires-clause-root g c = c.requires.root

pub list_folder-requires-clause-holds : goal.list_folder-requires-clause-holds
list_folder-requires-clause-holds g c = c.enter_folder.ensures.holds

pub returns-clause-told : goal.returns-clause-told
returns-clause-told g c =
    let entered = rw c.in-Some.is at c.in_ok-entered.ensures.told in
    if_ok_as c.list_folder.result (λ opened opens. opens_after g.V.EntryVisitor.tells g.V.EntryVisitor.stops g.V.EntryVisitor.says g.V.EntryVisitor.does g.V.EntryVisitor.between g.V.EntryVisitor.listless
    g.met.V.EntryVisitor.laws c.args.self.now.visitor.now c.args.self.now.root.now
    c.args.levels c.args.folder.now opened
    (g.T.Tree.went c.args.tree.now) (g.T.Tree.went c.enter_folder.new.tree) (g.T.Tree.went c.list_folder.new.tree)
    (g.O.Sink.device c.args.out.now) (g.O.Sink.device c.enter_folder.new.out) (g.O.Sink.device c.list_folder.new.out)
    c.args.tally.now c.enter_folder.new.tally c.list_folder.new.tally
    entered.0 entered.1 (opens c.args.levels)) c.list_folder.ensures.told

pub returns-clause-stops : goal.returns-clause-stops
returns-clause-stops g c =
    let entered = rw c.in-Some.is at c.in_ok-entered.ensures.told in
    if_err_as c.list_folder.result (λ why stopped. g.met.V.EntryVisitor.laws.later c.args.self.now.visitor.now []
    (g.O.Sink.device c.args.out.now) (g.O.Sink.device c.enter_folder.new.out) (g.O.Sink.device c.list_folder.new.out)
    c.args.tally.now c.enter_folder.new.tally why entered.0 stopped) c.list_folder.ensures.stops

pub returns-clause-does : goal.returns-clause-does
returns-clause-does g c =
    does_both g.V.EntryVisitor.tells g.V.EntryVisitor.stops g.V.EntryVisitor.says g.V.EntryVisitor.does g.V.EntryVisitor.between g.V.EntryVisitor.listless
    g.met.V.EntryVisitor.laws c.args.self.now.visitor.now c.args.self.now.root.now (is_ok c.list_folder.result)
    (g.T.Tree.went c.args.tree.now) (g.T.Tree.went c.enter_folder.new.tree) (g.T.Tree.went c.list_folder.new.tree)
    (does_visit g.V.EntryVisitor.tells g.V.EntryVisitor.stops g.V.EntryVisitor.says g.V.EntryVisitor.does g.V.EntryVisitor.between g.V.EntryVisitor.listless
    g.met.V.EntryVisitor.laws c.args.self.now.visitor.now c.args.self.now.root.now true
    (g.T.Tree.went c.args.tree.now) (g.T.Tree.went c.enter_folder.new.tree) c.in_ok-entered.ensures.does)
    c.list_folder.ensures.does

pub returns-clause-holds : goal.returns-clause-holds
returns-clause-holds g c = c.list_folder.ensures.holds
