use Rattle.msr_folders.proofs.WalkedLemmas.{on_ok_as}
use Rattle.msr_folders.specs.Days.{IsNoDay}
use Rattle.msr_walk.proofs.Visited.{no_day, visited_other}
use Rattle.msr_walk.proofs.Working.{goes_works_none}
use Rattle.msr_walk.proofs.walker.Walker.visit_found.Goals as goal

pub returns-in-Err-clause-told : goal.returns-in-Err-clause-told
returns-in-Err-clause-told g c =
    let said = c.parse.ensures in
    let is : IsNoDay c.args.path.now c.in-Err.fault = no_day c.args.path.now c.parse.result said.not_sds said.not_waveform said.bad_day c.in-Err.fault c.in-Err.is in
    λ kind there. on_ok_as c.tell.result (λ told. visited_other (λ of. of.tally) c.args.self.now.archive.now c.args.path.now kind c.in-Err.fault
    (g.T.Tree.went c.args.tree.now) (g.O.Sink.device c.args.out.now) (g.O.Sink.device c.tell.new.out) c.args.progress.now c.tell.new.progress
    there (λ day. let one = said.only day.0 day.1 in let other = c.in-Err.is in absurd cc) is told) (c.tell.ensures.told is)

pub returns-in-Err-clause-stops : goal.returns-in-Err-clause-stops
returns-in-Err-clause-stops g c =
    let said = c.parse.ensures in
    let is : IsNoDay c.args.path.now c.in-Err.fault = no_day c.args.path.now c.parse.result said.not_sds said.not_waveform said.bad_day c.in-Err.fault c.in-Err.is in
    c.tell.ensures.stops is

pub returns-in-Err-clause-works : goal.returns-in-Err-clause-works
returns-in-Err-clause-works g c = goes_works_none c.args.self.now.archive.now _ _
