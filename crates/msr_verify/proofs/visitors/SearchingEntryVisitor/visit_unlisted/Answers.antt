use Rattle.std.proofs.Common.{◌≡◌, Ok, Err}
use Rattle.std.proofs.lemmas.Result.{err_from_is_err_and}
use Rattle.msr_folders.proofs.WalkedLemmas.{on_ok_as}
use Rattle.msr_folders.specs.Paths.{joined}
use Rattle.msr_verify.proofs.EntriesFound.{none_told}
use Rattle.msr_folders.proofs.ReadingLemmas.{visit_by}
use Rattle.msr_verify.proofs.VisitedLemmas.{passed_folder, visited_records}
use Rattle.msr_verify.specs.Opening.{MayHave}
use Rattle.msr_verify.proofs.visitors.SearchingEntryVisitor.visit_unlisted.Goals as goal

pub returns-in_err-may_have-clause-stops : goal.returns-in_err-may_have-clause-stops
returns-in_err-may_have-clause-stops g c =
    let p = err_from_is_err_and c.from_residual.result c.from_residual.ensures.1 in
    rw (p.1, p.2, c.in_err-may_have.ensures.err) (none_told c.args.self.now.archive.now (g.O.Sink.device c.args.out.now))

pub returns-in_err-may_have-clause-does : goal.returns-in_err-may_have-clause-does
returns-in_err-may_have-clause-does g c =
    visit_by (MayHave c.args.place.now (Err c.in_err-may_have.field-0.0)) _ _ (λ old new is. is.looks) c.in_err-may_have.ensures.goes

pub returns-then-not-branch-clause-told : goal.returns-then-not-branch-clause-told
returns-then-not-branch-clause-told g c =
    let folders = c.args.self.now.archive.now.folders in
    let at : c.args.place.now ≡ joined folders.out.now c.args.folder.now = c.requires.place in
    passed_folder c.args.self.now.archive.now folders.root.now folders.out.now c.args.folder.now
    (g.T.Tree.went c.args.tree.now) (g.T.Tree.went c.may_have.new.tree) (g.O.Sink.device c.args.out.now) c.args.tally.now
    (rw (c.if-not-branch.true, at) at c.in_ok-may_have.ensures.goes)

pub returns-then-not-branch-clause-does : goal.returns-then-not-branch-clause-does
returns-then-not-branch-clause-does g c =
    visit_by (MayHave c.args.place.now (Ok c.in_ok-may_have.field-0)) _ _ (λ old new is. is.looks) c.in_ok-may_have.ensures.goes

pub returns-clause-told : goal.returns-clause-told
returns-clause-told g c =
    let folders = c.args.self.now.archive.now.folders in
    let at : c.args.place.now ≡ joined folders.out.now c.args.folder.now = c.requires.place in
    on_ok_as c.tell.result (λ told. visited_records c.args.self.now.archive.now folders.root.now folders.out.now c.args.folder.now
    (g.T.Tree.went c.args.tree.now) (g.T.Tree.went c.may_have.new.tree) (g.O.Sink.device c.args.out.now) (g.O.Sink.device c.tell.new.out)
    c.args.tally.now c.tell.new.tally (rw (c.if-not-branch.false, at) at c.in_ok-may_have.ensures.goes) told)
    (rw c.told_folder.ensures at c.tell.ensures.told tt)

pub returns-clause-does : goal.returns-clause-does
returns-clause-does g c =
    visit_by (MayHave c.args.place.now (Ok c.in_ok-may_have.field-0)) _ _ (λ old new is. is.looks) c.in_ok-may_have.ensures.goes
