use Rattle.std.proofs.Common.{rules, ◌≡◌, false, true}
use Rattle.std.proofs.lemmas.Result.{err_from_is_err_and}
use Rattle.msr_tree.specs.Listing.{listed}
use Rattle.msr_folders.specs.Paths.{joined}
use Rattle.msr_folders.proofs.WalkedLemmas.{does_end, does_listed, does_then, goes_none, holds_listed, walk_listed, walk_unlisted}
use Rattle.msr_folders.proofs.entries.EntryWalk.list_folder.Goals as goal

-- memory is refused for a path
pub returns-in_err-place-clause-told : goal.returns-in_err-place-clause-told
returns-in_err-place-clause-told g c =
    let p = err_from_is_err_and c.from_residual.result c.from_residual.ensures.1 in rw p.1 tt

pub returns-in_err-place-clause-stops : goal.returns-in_err-place-clause-stops
returns-in_err-place-clause-stops g c =
    let p = err_from_is_err_and c.from_residual.result c.from_residual.ensures.1 in
    rw (p.1, p.2) (g.met.V.EntryVisitor.laws.refused c.args.self.now.visitor.now (g.O.Sink.device c.args.out.now))

pub returns-in_err-place-clause-does : goal.returns-in_err-place-clause-does
returns-in_err-place-clause-does g c =
    let p = err_from_is_err_and c.from_residual.result c.from_residual.ensures.1 in
    rw p.1 (does_end g.V.EntryVisitor.tells g.V.EntryVisitor.stops g.V.EntryVisitor.says g.V.EntryVisitor.does g.V.EntryVisitor.between g.V.EntryVisitor.listless
    g.met.V.EntryVisitor.laws c.args.self.now.visitor.now c.args.self.now.root.now (g.T.Tree.went c.args.tree.now) (g.T.Tree.went c.args.tree.now)
    (goes_none (g.V.EntryVisitor.does c.args.self.now.visitor.now true) (g.T.Tree.went c.args.tree.now) (g.met.V.EntryVisitor.laws.still c.args.self.now.visitor.now)))

pub returns-in_err-place-clause-holds : goal.returns-in_err-place-clause-holds
returns-in_err-place-clause-holds g c = c.requires.holds

-- it has a list
pub returns-in-Ok-clause-told : goal.returns-in-Ok-clause-told
returns-in-Ok-clause-told g c = λ levels.
    let at : c.as_str.result.now ≡ joined c.args.self.now.root.now c.args.folder.now = search rules in
    walk_listed g.V.EntryVisitor.tells g.V.EntryVisitor.stops g.V.EntryVisitor.says g.V.EntryVisitor.does g.V.EntryVisitor.between g.V.EntryVisitor.listless
    g.met.V.EntryVisitor.laws c.args.self.now.visitor.now c.args.self.now.root.now levels c.args.folder.now c.as_str.result.now (listed c.in-Ok.names.items)
    (g.T.Tree.went c.args.tree.now) (g.T.Tree.went c.list.new.self) (g.O.Sink.device c.args.out.now) c.args.tally.now at c.in-Ok.ensures.went

pub returns-in-Ok-clause-does : goal.returns-in-Ok-clause-does
returns-in-Ok-clause-does g c = does_listed g.V.EntryVisitor.tells g.V.EntryVisitor.stops g.V.EntryVisitor.says g.V.EntryVisitor.does g.V.EntryVisitor.between g.V.EntryVisitor.listless
    g.met.V.EntryVisitor.laws c.args.self.now.visitor.now c.args.self.now.root.now c.as_str.result.now (λ names. listed names.items) c.list.result
    (g.T.Tree.went c.args.tree.now) (g.T.Tree.went c.list.new.self) c.list.ensures.went

pub returns-in-Ok-clause-holds : goal.returns-in-Ok-clause-holds
returns-in-Ok-clause-holds g c = holds_listed g.V.EntryVisitor.holds g.met.V.EntryVisitor.listed c.args.self.now.visitor.now c.args.tally.now c.as_str.result.now (λ names. listed names.items) c.list.result
    (g.T.Tree.went c.args.tree.now) (g.T.Tree.went c.list.new.self) c.requires.holds c.list.ensures.went

-- memory is refused for its list
pub returns-in-Err-Memory-clause-stops : goal.returns-in-Err-Memory-clause-stops
returns-in-Err-Memory-clause-stops g c = g.met.V.EntryVisitor.laws.refused c.args.self.now.visitor.now (g.O.Sink.device c.args.out.now)

pub returns-in-Err-Memory-clause-does : goal.returns-in-Err-Memory-clause-does
returns-in-Err-Memory-clause-does g c =
    does_end g.V.EntryVisitor.tells g.V.EntryVisitor.stops g.V.EntryVisitor.says g.V.EntryVisitor.does g.V.EntryVisitor.between g.V.EntryVisitor.listless
    g.met.V.EntryVisitor.laws c.args.self.now.visitor.now c.args.self.now.root.now (g.T.Tree.went c.args.tree.now) (g.T.Tree.went c.list.new.self)
    (does_listed g.V.EntryVisitor.tells g.V.EntryVisitor.stops g.V.EntryVisitor.says g.V.EntryVisitor.does g.V.EntryVisitor.between g.V.EntryVisitor.listless
    g.met.V.EntryVisitor.laws c.args.self.now.visitor.now c.args.self.now.root.now c.as_str.result.now (λ names. listed names.items) c.list.result
    (g.T.Tree.went c.args.tree.now) (g.T.Tree.went c.list.new.self) c.list.ensures.went)

pub returns-in-Err-Memory-clause-holds : goal.returns-in-Err-Memory-clause-holds
returns-in-Err-Memory-clause-holds g c = holds_listed g.V.EntryVisitor.holds g.met.V.EntryVisitor.listed c.args.self.now.visitor.now c.args.tally.now c.as_str.result.now (λ names. listed names.items) c.list.result
    (g.T.Tree.went c.args.tree.now) (g.T.Tree.went c.list.new.self) c.requires.holds c.list.ensures.went

-- it has none
pub visit_unlisted-requires-clause-count : goal.visit_unlisted-requires-clause-count
visit_unlisted-requires-clause-count g c = c.requires.count

pub visit_unlisted-requires-clause-holds : goal.visit_unlisted-requires-clause-holds
visit_unlisted-requires-clause-holds g c = holds_listed g.V.EntryVisitor.holds g.met.V.EntryVisitor.listed c.args.self.now.visitor.now c.args.tally.now c.as_str.result.now (λ names. listed names.items) c.list.result
    (g.T.Tree.went c.args.tree.now) (g.T.Tree.went c.list.new.self) c.requires.holds c.list.ensures.went

pub returns-in_err-visit_unlisted-in-Err-Failed-clause-told :
    goal.returns-in_err-visit_unlisted-in-Err-Failed-clause-told
returns-in_err-visit_unlisted-in-Err-Failed-clause-told g c =
    let p = err_from_is_err_and c.from_residual-in_err-visit_unlisted-in-Err-Failed.result c.from_residual-in_err-visit_unlisted-in-Err-Failed.ensures.1 in rw p.1 tt

pub returns-in_err-visit_unlisted-in-Err-Failed-clause-stops :
    goal.returns-in_err-visit_unlisted-in-Err-Failed-clause-stops
returns-in_err-visit_unlisted-in-Err-Failed-clause-stops g c =
    let p = err_from_is_err_and c.from_residual-in_err-visit_unlisted-in-Err-Failed.result c.from_residual-in_err-visit_unlisted-in-Err-Failed.ensures.1 in
    rw (p.1, p.2) c.in_err-visit_unlisted-in-Err-Failed.ensures.stops

pub returns-in_err-visit_unlisted-in-Err-Failed-clause-does :
    goal.returns-in_err-visit_unlisted-in-Err-Failed-clause-does
returns-in_err-visit_unlisted-in-Err-Failed-clause-does g c =
    let p = err_from_is_err_and c.from_residual-in_err-visit_unlisted-in-Err-Failed.result c.from_residual-in_err-visit_unlisted-in-Err-Failed.ensures.1 in
    rw p.1 (does_then g.V.EntryVisitor.tells g.V.EntryVisitor.stops g.V.EntryVisitor.says g.V.EntryVisitor.does g.V.EntryVisitor.between g.V.EntryVisitor.listless
    g.met.V.EntryVisitor.laws c.args.self.now.visitor.now c.args.self.now.root.now false
    (g.T.Tree.went c.args.tree.now) (g.T.Tree.went c.list.new.self) (g.T.Tree.went c.visit_unlisted.new.tree)
    (does_listed g.V.EntryVisitor.tells g.V.EntryVisitor.stops g.V.EntryVisitor.says g.V.EntryVisitor.does g.V.EntryVisitor.between g.V.EntryVisitor.listless
    g.met.V.EntryVisitor.laws c.args.self.now.visitor.now c.args.self.now.root.now c.as_str.result.now (λ names. listed names.items) c.list.result
    (g.T.Tree.went c.args.tree.now) (g.T.Tree.went c.list.new.self) c.list.ensures.went)
    c.in_err-visit_unlisted-in-Err-Failed.ensures.does)

pub returns-in_err-visit_unlisted-in-Err-Failed-clause-holds :
    goal.returns-in_err-visit_unlisted-in-Err-Failed-clause-holds
returns-in_err-visit_unlisted-in-Err-Failed-clause-holds g c = c.visit_unlisted.ensures.holds

pub returns-clause-told : goal.returns-clause-told
returns-clause-told g c = λ levels.
    let at : c.as_str.result.now ≡ joined c.args.self.now.root.now c.args.folder.now = search rules in
    let lists = rw c.in-Err-Failed.field-0-is at c.in-Err-Failed.ensures.went in
    walk_unlisted g.V.EntryVisitor.tells g.V.EntryVisitor.stops g.V.EntryVisitor.says g.V.EntryVisitor.does g.V.EntryVisitor.between g.V.EntryVisitor.listless
    g.met.V.EntryVisitor.laws c.args.self.now.visitor.now c.args.self.now.root.now levels c.args.folder.now c.as_str.result.now
    (g.T.Tree.went c.args.tree.now) (g.T.Tree.went c.list.new.self) (g.T.Tree.went c.visit_unlisted.new.tree)
    (g.O.Sink.device c.args.out.now) (g.O.Sink.device c.visit_unlisted.new.out)
    c.args.tally.now c.visit_unlisted.new.tally at lists c.in_ok-visit_unlisted-in-Err-Failed.ensures.told

pub returns-clause-does : goal.returns-clause-does
returns-clause-does g c =
    does_then g.V.EntryVisitor.tells g.V.EntryVisitor.stops g.V.EntryVisitor.says g.V.EntryVisitor.does g.V.EntryVisitor.between g.V.EntryVisitor.listless
    g.met.V.EntryVisitor.laws c.args.self.now.visitor.now c.args.self.now.root.now true
    (g.T.Tree.went c.args.tree.now) (g.T.Tree.went c.list.new.self) (g.T.Tree.went c.visit_unlisted.new.tree)
    (does_listed g.V.EntryVisitor.tells g.V.EntryVisitor.stops g.V.EntryVisitor.says g.V.EntryVisitor.does g.V.EntryVisitor.between g.V.EntryVisitor.listless
    g.met.V.EntryVisitor.laws c.args.self.now.visitor.now c.args.self.now.root.now c.as_str.result.now (λ names. listed names.items) c.list.result
    (g.T.Tree.went c.args.tree.now) (g.T.Tree.went c.list.new.self) c.list.ensures.went)
    c.in_ok-visit_unlisted-in-Err-Failed.ensures.does

pub returns-clause-holds : goal.returns-clause-holds
returns-clause-holds g c = c.visit_unlisted.ensures.holds
