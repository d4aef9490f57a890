use Rattle.std.proofs.Common.{◌≡◌, ◌≢◌, ◌∙◌, [], Bool, true, false, Ok, Some, None, refl, sym, subst}
use Rattle.std.proofs.lemmas.Result.{err_from_is_err_and}
use Rattle.msr_folders.proofs.WalkedLemmas.{on_ok_as}
use Rattle.msr_folders.specs.Entries.{WithoutList}
use Rattle.msr_folders.specs.Paths.{told_folder}
use Rattle.msr_tree.specs.Listing.{is_there}
use Rattle.msr_tree.specs.Reads.{OnlyLooks}
use Rattle.msr_tree.specs.Steps.{Step}
use Rattle.std.specs.Prelude.{List}
use Rattle.msr_replace.specs.Said.{DoesFor, only_line, unlisted_of}
use Rattle.msr_replace.specs.declared.lines.Outcome.TheVariants.{Refused}
use Rattle.msr_replace.specs.declared.replacer.Course.TheVariants as course
use Rattle.msr_replace.proofs.LinesTold.{none_told}
use Rattle.msr_replace.proofs.Saying.{none_said, passed_by, visited}
use Rattle.msr_replace.proofs.Touching.{visit_still}
use Rattle.msr_replace.proofs.visitor.ReplacerEntryVisitor.visit_unlisted.Goals as goal

pub returns-then-is_some-clause-told : goal.returns-then-is_some-clause-told
returns-then-is_some-clause-told g c =
    passed_by c.args.self.now.course c.args.self.now.work (WithoutList c.args.folder.now) (g.T.Tree.went c.args.tree.now)
    (g.O.Sink.device c.args.out.now) c.args.progress.now (sym c.is_some.ensures ∙ c.if-is_some.true)

pub returns-in_err-may_lack-clause-stops : goal.returns-in_err-may_lack-clause-stops
returns-in_err-may_lack-clause-stops g c =
    let p = err_from_is_err_and c.from_residual.result c.from_residual.ensures.1 in
    rw (p.1, p.2, c.in_err-may_lack.ensures.memory) (none_told (g.O.Sink.device c.args.out.now))

pub returns-then-branch-clause-told : goal.returns-then-branch-clause-told
returns-then-branch-clause-told g c =
    let on = c.args.self.now.course in
    let work = c.args.self.now.work in
    let Lacks : Bool → (past new : List Step) → Type 0 = λ lacks past new. OnlyLooks past new × (lacks ≡ true → (on ≢ course.Root) × (is_there past c.args.place.now ≡ false)) in
    visited on work (WithoutList c.args.folder.now) [] (DoesFor on work Lacks (Ok true))
    (g.T.Tree.went c.args.tree.now) (g.T.Tree.went c.may_lack.new.tree) (g.O.Sink.device c.args.out.now) (g.O.Sink.device c.args.out.now)
    c.args.progress.now c.args.progress.now
    (λ old new is.
    let both = is.says.1 refl in
    (is.later, (None, refl, (both.0, subst (λ p. is_there old p ≡ false) c.requires.place both.1), is.says.0)))
    (rw c.if-branch.true at c.in_ok-may_lack.ensures.goes) (none_said (g.O.Sink.device c.args.out.now) c.args.progress.now)

pub returns-clause-told : goal.returns-clause-told
returns-clause-told g c =
    let on = c.args.self.now.course in
    let work = c.args.self.now.work in
    let Lacks : Bool → (past new : List Step) → Type 0 = λ lacks past new. OnlyLooks past new × (lacks ≡ true → (on ≢ course.Root) × (is_there past c.args.place.now ≡ false)) in
    on_ok_as c.tell.result (λ told. visited on work (WithoutList c.args.folder.now) (only_line (told_folder c.args.folder.now) (Refused (unlisted_of on)))
    (DoesFor on work Lacks (Ok c.in_ok-may_lack.field-0))
    (g.T.Tree.went c.args.tree.now) (g.T.Tree.went c.may_lack.new.tree) (g.O.Sink.device c.args.out.now) (g.O.Sink.device c.tell.new.out)
    c.args.progress.now c.tell.new.progress
    (λ old new is. (is.later, (Some (Refused (unlisted_of on)), refl, refl, is.says.0)))
    c.in_ok-may_lack.ensures.goes told) (rw (c.told_folder.ensures, c.unlisted.ensures) at c.tell.ensures.told)

pub returns-then-is_some-clause-does : goal.returns-then-is_some-clause-does
returns-then-is_some-clause-does g c = visit_still c.args.self.now.course c.args.self.now.work (g.T.Tree.went c.args.tree.now)
