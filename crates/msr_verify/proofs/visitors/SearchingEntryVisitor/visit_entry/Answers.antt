use Rattle.std.proofs.Common.{rules, ◌≡◌, Ok, Err}
use Rattle.std.proofs.lemmas.Result.{err_from_is_err_and}
use Rattle.msr_folders.proofs.WalkedLemmas.{on_ok_as}
use Rattle.msr_folders.specs.Paths.{joined}
use Rattle.msr_verify.proofs.EntriesFound.{none_told}
use Rattle.msr_folders.proofs.ReadingLemmas.{visit_by}
use Rattle.msr_verify.proofs.VisitedLemmas.{passed_day, passed_other, visited_orphan}
use Rattle.msr_verify.specs.Opening.{MayHave}
use Rattle.msr_verify.proofs.visitors.SearchingEntryVisitor.visit_entry.Goals as goal

pub returns-in-Err-clause-told : goal.returns-in-Err-clause-told
returns-in-Err-clause-told g c =
    let folders = c.args.self.now.archive.now.folders in
    passed_other c.args.self.now.archive.now folders.root.now folders.out.now c.args.path.now c.args._kind
    (g.T.Tree.went c.args.tree.now) (g.O.Sink.device c.args.out.now) c.args.tally.now
    (λ day. let one = c.parse.ensures.only day.0 day.1 in let other = c.in-Err.is in absurd cc)

pub returns-in_err-file-in-Ok-clause-stops : goal.returns-in_err-file-in-Ok-clause-stops
returns-in_err-file-in-Ok-clause-stops g c =
    let p = err_from_is_err_and c.from_residual.result c.from_residual.ensures.1 in
    rw (p.1, p.2) (none_told c.args.self.now.archive.now (g.O.Sink.device c.args.out.now))

pub returns-in_err-may_have-in-Ok-clause-stops : goal.returns-in_err-may_have-in-Ok-clause-stops
returns-in_err-may_have-in-Ok-clause-stops g c =
    let p = err_from_is_err_and c.from_residual-in_err-may_have-in-Ok.result c.from_residual-in_err-may_have-in-Ok.ensures.1 in
    rw (p.1, p.2, c.in_err-may_have-in-Ok.ensures.err) (none_told c.args.self.now.archive.now (g.O.Sink.device c.args.out.now))

pub returns-in_err-may_have-in-Ok-clause-does : goal.returns-in_err-may_have-in-Ok-clause-does
returns-in_err-may_have-in-Ok-clause-does g c =
    visit_by (MayHave c.as_str.result.now (Err c.in_err-may_have-in-Ok.field-0.0)) _ _ (λ old new is. is.looks) c.in_err-may_have-in-Ok.ensures.goes

pub returns-then-branch-clause-told : goal.returns-then-branch-clause-told
returns-then-branch-clause-told g c =
    let folders = c.args.self.now.archive.now.folders in
    let at : c.as_str.result.now ≡ joined folders.root.now c.args.path.now = search rules in
    passed_day c.args.self.now.archive.now folders.root.now folders.out.now c.args.path.now c.args._kind
    (g.T.Tree.went c.args.tree.now) (g.T.Tree.went c.may_have.new.tree) (g.O.Sink.device c.args.out.now) c.args.tally.now
    (c.in-Ok.field-0, c.in-Ok.ensures.found) (rw (c.if-branch.true, at) at c.in_ok-may_have-in-Ok.ensures.goes)

pub returns-then-branch-clause-does : goal.returns-then-branch-clause-does
returns-then-branch-clause-does g c =
    visit_by (MayHave c.as_str.result.now (Ok c.in_ok-may_have-in-Ok.field-0)) _ _ (λ old new is. is.looks) c.in_ok-may_have-in-Ok.ensures.goes

pub returns-else-branch-clause-told : goal.returns-else-branch-clause-told
returns-else-branch-clause-told g c =
    let folders = c.args.self.now.archive.now.folders in
    let at : c.as_str.result.now ≡ joined folders.root.now c.args.path.now = search rules in
    on_ok_as c.tell.result (λ told. visited_orphan c.args.self.now.archive.now folders.root.now folders.out.now c.args.path.now c.args._kind
    (g.T.Tree.went c.args.tree.now) (g.T.Tree.went c.may_have.new.tree) (g.O.Sink.device c.args.out.now) (g.O.Sink.device c.tell.new.out)
    c.args.tally.now c.tell.new.tally (c.in-Ok.field-0, c.in-Ok.ensures.found) (rw (c.if-branch.false, at) at c.in_ok-may_have-in-Ok.ensures.goes) told)
    (c.tell.ensures.told (record { day = (c.in-Ok.field-0, c.in-Ok.ensures.found); judgement_is = tt }))

pub returns-else-branch-clause-stops : goal.returns-else-branch-clause-stops
returns-else-branch-clause-stops g c =
    c.tell.ensures.stops (record { day = (c.in-Ok.field-0, c.in-Ok.ensures.found); judgement_is = tt })

pub returns-else-branch-clause-does : goal.returns-else-branch-clause-does
returns-else-branch-clause-does g c =
    visit_by (MayHave c.as_str.result.now (Ok c.in_ok-may_have-in-Ok.field-0)) _ _ (λ old new is. is.looks) c.in_ok-may_have-in-Ok.ensures.goes
