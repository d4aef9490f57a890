use Rattle.std.proofs.Common.{[], Ok, Some, None, refl}
use Rattle.std.proofs.lemmas.Result.{err_from_is_err_and}
use Rattle.msr_folders.proofs.WalkedLemmas.{on_ok_as}
use Rattle.msr_folders.specs.Entries.{Entry}
use Rattle.msr_replace.specs.Said.{DoesFor, IsOfDay, only_line}
use Rattle.msr_replace.proofs.LinesTold.{none_told}
use Rattle.msr_replace.proofs.Saying.{none_said, visited}
use Rattle.msr_replace.proofs.replacer.Replacer.tell_day.Goals as goal

pub returns-in_err-outcome-clause-stops : goal.returns-in_err-outcome-clause-stops
returns-in_err-outcome-clause-stops g c =
    let p = err_from_is_err_and c.from_residual.result c.from_residual.ensures.1 in
    rw (p.1, p.2, c.in_err-outcome.ensures.memory) (none_told (g.O.Sink.device c.args.out.now))

pub returns-in-Some-clause-told : goal.returns-in-Some-clause-told
returns-in-Some-clause-told g c = λ kind.
    let on = c.args.self.now.course in
    let work = c.args.self.now.work in
    let path = c.args.path.now in
    on_ok_as c.tell.result (λ told. visited on work (Entry path kind) (only_line path c.in-Some.outcome) (DoesFor on work (IsOfDay on work path) (Ok (Some c.in-Some.outcome)))
    (g.T.Tree.went c.args.tree.now) (g.T.Tree.went c.handle.new.tree) (g.O.Sink.device c.args.out.now) (g.O.Sink.device c.tell.new.out)
    c.args.progress.now c.tell.new.progress
    (λ old new is. (is.later, (Some c.in-Some.outcome, refl, record { day = λ one. is.says; other = λ none. absurd (none c.requires.day) })))
    (rw c.in-Some.is at c.in_ok-outcome.ensures.goes) told) c.tell.ensures.told

pub returns-in-None-clause-told : goal.returns-in-None-clause-told
returns-in-None-clause-told g c = λ kind.
    let on = c.args.self.now.course in
    let work = c.args.self.now.work in
    let path = c.args.path.now in
    visited on work (Entry path kind) [] (DoesFor on work (IsOfDay on work path) (Ok None))
    (g.T.Tree.went c.args.tree.now) (g.T.Tree.went c.handle.new.tree) (g.O.Sink.device c.args.out.now) (g.O.Sink.device c.args.out.now)
    c.args.progress.now c.args.progress.now
    (λ old new is. (is.later, (None, refl, record { day = λ one. is.says; other = λ none. absurd (none c.requires.day) })))
    (rw c.in-None.is at c.in_ok-outcome.ensures.goes) (none_said (g.O.Sink.device c.args.out.now) c.args.progress.now)
