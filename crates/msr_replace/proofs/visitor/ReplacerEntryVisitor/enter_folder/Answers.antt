use Rattle.std.proofs.Common.{◌≢◌, ◌∙◌, List, Option, Some, Ok, IfSome, refl, rules, sym}
use Rattle.std.proofs.lemmas.Result.{err_from_is_err_and}
use Rattle.msr_folders.specs.Entries.{Passed}
use Rattle.msr_exchange.specs.Stamped.{all_parts_in}
use Rattle.msr_tree.proofs.Changes.{changes_none}
use Rattle.msr_tree.specs.Steps.{Path, Step}
use Rattle.msr_exchange.specs.declared.work.DayWork.{DayWork}
use Rattle.msr_replace.specs.declared.lines.Outcome.{Outcome}
use Rattle.msr_replace.specs.declared.replacer.Course.{Course}
use Rattle.msr_replace.specs.declared.replacer.Course.TheVariants as course
use Rattle.msr_replace.specs.Said.{DoesFor, PassesFolder, only_line}
use Rattle.msr_replace.specs.declared.lines.EntryRefusal.TheVariants.{Busy}
use Rattle.msr_replace.specs.declared.lines.Outcome.TheVariants.{Refused}
use Rattle.msr_replace.proofs.LinesTold.{none_told}
use Rattle.msr_replace.proofs.Saying.{none_said, passed_by, visited, visited_still}
use Rattle.msr_replace.proofs.Touching.{visit_does, visit_still}
use Rattle.msr_replace.proofs.visitor.ReplacerEntryVisitor.enter_folder.Goals as goal

abbrev Passes : Course → DayWork → (folder : Path) → Option Outcome → (old new : List Step) → Type 0
Passes on work folder outcome old new = IfSome outcome (λ why. PassesFolder on work folder why old new)

pub returns-then-is_some-clause-told : goal.returns-then-is_some-clause-told
returns-then-is_some-clause-told g c =
    passed_by c.args.self.now.course c.args.self.now.work (Passed c.args.folder.now) (g.T.Tree.went c.args.tree.now)
    (g.O.Sink.device c.args.out.now) c.args.progress.now (sym c.is_some.ensures ∙ c.if-is_some.true)

pub returns-then-levels-gt0-clause-told : goal.returns-then-levels-gt0-clause-told
returns-then-levels-gt0-clause-told g c =
    (none_said (g.O.Sink.device c.args.out.now) c.args.progress.now, visit_still c.args.self.now.course c.args.self.now.work (g.T.Tree.went c.args.tree.now))

pub returns-in_err-locked-clause-stops : goal.returns-in_err-locked-clause-stops
returns-in_err-locked-clause-stops g c =
    let p = err_from_is_err_and c.from_residual.result c.from_residual.ensures.1 in
    rw (p.1, p.2) (none_told (g.O.Sink.device c.args.out.now))

pub returns-in_default-clause-told : goal.returns-in_default-clause-told
returns-in_default-clause-told g c =
    let apart : c.args.self.now.course ≢ course.Out = search rules in
    visited_still c.args.self.now.course c.args.self.now.work (Passed c.args.folder.now) (only_line c.args.folder.now (Refused Busy)) (g.T.Tree.went c.args.tree.now)
    (g.O.Sink.device c.args.out.now) (g.O.Sink.device c.tell.new.out) c.args.progress.now c.tell.new.progress
    (λ past. (apart, Refused Busy, refl, record { why = refl; changes = changes_none (all_parts_in c.args.self.now.work c.args.folder.now) past })) c.in_ok-tell.ensures.told

pub tell-requires-in-Some-2-clause-entry : goal.tell-requires-in-Some-2-clause-entry
tell-requires-in-Some-2-clause-entry g c = rw c.in-Some-2.is at c.in_ok-outcome.ensures.of

pub returns-in_err-outcome-clause-stops : goal.returns-in_err-outcome-clause-stops
returns-in_err-outcome-clause-stops g c =
    let p = err_from_is_err_and c.from_residual-in_err-outcome.result c.from_residual-in_err-outcome.ensures.1 in
    rw (p.1, p.2, c.in_err-outcome.ensures.memory) (none_told (g.O.Sink.device c.args.out.now))

pub returns-in-Some-2-clause-told : goal.returns-in-Some-2-clause-told
returns-in-Some-2-clause-told g c =
    let on = c.args.self.now.course in
    let work = c.args.self.now.work in
    let folder = c.args.folder.now in
    let apart : on ≢ course.Out = search rules in
    visited on work (Passed folder) (only_line folder c.in-Some-2.outcome) (DoesFor on work (Passes on work folder) (Ok (Some c.in-Some-2.outcome)))
    (g.T.Tree.went c.args.tree.now) (g.T.Tree.went c.begin.new.tree)
    (g.O.Sink.device c.args.out.now) (g.O.Sink.device c.tell-in-Some-2.new.out) c.args.progress.now c.tell-in-Some-2.new.progress
    (λ old new is. (is.later, (apart, c.in-Some-2.outcome, refl, is.says)))
    (rw c.in-Some-2.is at c.in_ok-outcome.ensures.goes) c.in_ok-tell-2.ensures.told

pub returns-clause-told : goal.returns-clause-told
returns-clause-told g c = (
  none_said (g.O.Sink.device c.args.out.now) c.args.progress.now,
  visit_does c.args.self.now.course c.args.self.now.work (DoesFor c.args.self.now.course c.args.self.now.work (Passes c.args.self.now.course c.args.self.now.work c.args.folder.now) c.begin.result)
      (g.T.Tree.went c.args.tree.now) (g.T.Tree.went c.begin.new.tree) (λ old new is. is.later) c.begin.ensures.goes,
)

pub returns-then-is_some-clause-does : goal.returns-then-is_some-clause-does
returns-then-is_some-clause-does g c = visit_still c.args.self.now.course c.args.self.now.work (g.T.Tree.went c.args.tree.now)

pub returns-then-levels-gt0-clause-does : goal.returns-then-levels-gt0-clause-does
returns-then-levels-gt0-clause-does g c = visit_still c.args.self.now.course c.args.self.now.work (g.T.Tree.went c.args.tree.now)

pub returns-in_err-locked-clause-does : goal.returns-in_err-locked-clause-does
returns-in_err-locked-clause-does g c = visit_still c.args.self.now.course c.args.self.now.work (g.T.Tree.went c.args.tree.now)

pub returns-in_err-tell-clause-does : goal.returns-in_err-tell-clause-does
returns-in_err-tell-clause-does g c = visit_still c.args.self.now.course c.args.self.now.work (g.T.Tree.went c.args.tree.now)

pub returns-in_default-clause-does : goal.returns-in_default-clause-does
returns-in_default-clause-does g c = visit_still c.args.self.now.course c.args.self.now.work (g.T.Tree.went c.args.tree.now)

pub returns-in_err-outcome-clause-does : goal.returns-in_err-outcome-clause-does
returns-in_err-outcome-clause-does g c =
    visit_does c.args.self.now.course c.args.self.now.work (DoesFor c.args.self.now.course c.args.self.now.work (Passes c.args.self.now.course c.args.self.now.work c.args.folder.now) c.begin.result)
    (g.T.Tree.went c.args.tree.now) (g.T.Tree.went c.begin.new.tree) (λ old new is. is.later) c.begin.ensures.goes

pub returns-in_err-tell-2-clause-does : goal.returns-in_err-tell-2-clause-does
returns-in_err-tell-2-clause-does g c =
    visit_does c.args.self.now.course c.args.self.now.work (DoesFor c.args.self.now.course c.args.self.now.work (Passes c.args.self.now.course c.args.self.now.work c.args.folder.now) c.begin.result)
    (g.T.Tree.went c.args.tree.now) (g.T.Tree.went c.begin.new.tree) (λ old new is. is.later) c.begin.ensures.goes

pub returns-in-Some-2-clause-does : goal.returns-in-Some-2-clause-does
returns-in-Some-2-clause-does g c =
    visit_does c.args.self.now.course c.args.self.now.work (DoesFor c.args.self.now.course c.args.self.now.work (Passes c.args.self.now.course c.args.self.now.work c.args.folder.now) c.begin.result)
    (g.T.Tree.went c.args.tree.now) (g.T.Tree.went c.begin.new.tree) (λ old new is. is.later) c.begin.ensures.goes

pub returns-clause-does : goal.returns-clause-does
returns-clause-does g c =
    visit_does c.args.self.now.course c.args.self.now.work (DoesFor c.args.self.now.course c.args.self.now.work (Passes c.args.self.now.course c.args.self.now.work c.args.folder.now) c.begin.result)
    (g.T.Tree.went c.args.tree.now) (g.T.Tree.went c.begin.new.tree) (λ old new is. is.later) c.begin.ensures.goes
