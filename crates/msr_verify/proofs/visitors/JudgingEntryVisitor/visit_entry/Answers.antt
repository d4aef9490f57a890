use Rattle.std.proofs.Common.{Ok, Err}
use Rattle.std.proofs.lemmas.Result.{err_from_is_err_and}
use Rattle.msr_folders.proofs.WalkedLemmas.{on_ok_as}
use Rattle.msr_folders.specs.Days.{IsNoDay}
use Rattle.msr_verify.proofs.EntriesFound.{judged, none_told}
use Rattle.msr_folders.proofs.ReadingLemmas.{visit_by}
use Rattle.msr_verify.proofs.VisitedLemmas.{no_day, other_is, visited_day, visited_other}
use Rattle.msr_verify.specs.Files.{JudgesNamed, day_places}
use Rattle.msr_verify.proofs.visitors.JudgingEntryVisitor.visit_entry.Goals as goal

pub returns-in_err-judgement-in-Ok-clause-stops : goal.returns-in_err-judgement-in-Ok-clause-stops
returns-in_err-judgement-in-Ok-clause-stops g c =
    let p = err_from_is_err_and c.from_residual.result c.from_residual.ensures.1 in
    rw (p.1, p.2, c.in_err-judgement-in-Ok.ensures.err) (none_told c.args.self.now.archive.now (g.O.Sink.device c.args.out.now))

pub returns-in_err-judgement-in-Ok-clause-does : goal.returns-in_err-judgement-in-Ok-clause-does
returns-in_err-judgement-in-Ok-clause-does g c =
    let folders = c.args.self.now.archive.now.folders in
    visit_by (JudgesNamed c.names_of-names.result (day_places folders.root.now folders.out.now folders.reports.now c.args.path.now) (Err c.in_err-judgement-in-Ok.field-0.0)) _ _
    (λ old new is. is.looks) c.in_err-judgement-in-Ok.ensures.goes

pub returns-in_ok-judgement-in-Ok-clause-told : goal.returns-in_ok-judgement-in-Ok-clause-told
returns-in_ok-judgement-in-Ok-clause-told g c =
    let folders = c.args.self.now.archive.now.folders in
    on_ok_as c.tell.result (λ told. visited_day c.args.self.now.archive.now folders.root.now folders.out.now folders.reports.now c.args.path.now c.args.kind c.in_ok-judgement-in-Ok.judgement
    (g.T.Tree.went c.args.tree.now) (g.T.Tree.went c.judge_day.new.tree) (g.O.Sink.device c.args.out.now) (g.O.Sink.device c.tell.new.out)
    c.args.tally.now c.tell.new.tally (c.in-Ok.name, c.in-Ok.ensures.found) (rw c.names_of-names.ensures at c.in_ok-judgement-in-Ok.ensures.goes) told)
    (c.tell.ensures.told (judged _ c.in_ok-judgement-in-Ok.judgement (c.in-Ok.name, c.in-Ok.ensures.found) c.in_ok-judgement-in-Ok.ensures.told))

pub returns-in_ok-judgement-in-Ok-clause-stops : goal.returns-in_ok-judgement-in-Ok-clause-stops
returns-in_ok-judgement-in-Ok-clause-stops g c =
    c.tell.ensures.stops (judged _ c.in_ok-judgement-in-Ok.judgement (c.in-Ok.name, c.in-Ok.ensures.found) c.in_ok-judgement-in-Ok.ensures.told)

pub returns-in_ok-judgement-in-Ok-clause-does : goal.returns-in_ok-judgement-in-Ok-clause-does
returns-in_ok-judgement-in-Ok-clause-does g c =
    let folders = c.args.self.now.archive.now.folders in
    visit_by (JudgesNamed c.names_of-names.result (day_places folders.root.now folders.out.now folders.reports.now c.args.path.now) (Ok c.in_ok-judgement-in-Ok.judgement)) _ _
    (λ old new is. is.looks) c.in_ok-judgement-in-Ok.ensures.goes

pub returns-in-Err-clause-told : goal.returns-in-Err-clause-told
returns-in-Err-clause-told g c =
    let folders = c.args.self.now.archive.now.folders in
    let said = c.parse.ensures in
    let is : IsNoDay c.args.path.now c.in-Err.fault = no_day c.args.path.now c.parse.result said.not_sds said.not_waveform said.bad_day c.in-Err.fault c.in-Err.is in
    let line = c.tell-in-Err.ensures.told (rw c.other_judgement.ensures (other_is c.args.path.now c.args.kind c.in-Err.fault is)) in
    on_ok_as c.tell-in-Err.result (λ told. visited_other c.args.self.now.archive.now folders.root.now folders.out.now folders.reports.now c.args.path.now c.args.kind c.in-Err.fault
    (g.T.Tree.went c.args.tree.now) (g.O.Sink.device c.args.out.now) (g.O.Sink.device c.tell-in-Err.new.out) c.args.tally.now c.tell-in-Err.new.tally
    (λ day. let one = said.only day.0 day.1 in let other = c.in-Err.is in absurd cc) is told)
    (rw c.other_judgement.ensures at line)

pub returns-in-Err-clause-stops : goal.returns-in-Err-clause-stops
returns-in-Err-clause-stops g c =
    let said = c.parse.ensures in
    let is : IsNoDay c.args.path.now c.in-Err.fault = no_day c.args.path.now c.parse.result said.not_sds said.not_waveform said.bad_day c.in-Err.fault c.in-Err.is in
    c.tell-in-Err.ensures.stops (rw c.other_judgement.ensures (other_is c.args.path.now c.args.kind c.in-Err.fault is))
