use Rattle.msr_folders.proofs.ReadingLemmas.{visits_nothing}
use Rattle.msr_folders.proofs.WalkedLemmas.{on_ok_as}
use Rattle.msr_folders.specs.Days.{IsNoDay}
use Rattle.msr_trial.proofs.Told.{no_day, visited_other}
use Rattle.msr_trial.proofs.walk.Trier.visit_found.Goals as goal

pub returns-in-Err-clause-told : goal.returns-in-Err-clause-told
returns-in-Err-clause-told g c =
    let said = c.parse.ensures in
    let is : IsNoDay c.args.path.now c.in-Err.fault = no_day c.args.path.now c.parse.result said.not_sds said.not_waveform said.bad_day c.in-Err.fault c.in-Err.is in
    λ kind there. on_ok_as c.tell.result (λ told. visited_other c.args.self.now.asked.now.days c.args.self.now.asked.now.root.now c.args.path.now kind c.in-Err.fault
    (g.T.Tree.went c.args.tree.now) (g.O.Sink.device c.args.out.now) (g.O.Sink.device c.tell.new.out) c.args.tally.now c.tell.new.tally
    there (λ day. let one = said.only day.0 day.1 in let other = c.in-Err.is in absurd cc) is told) (c.tell.ensures.told is)

pub returns-in-Err-clause-stops : goal.returns-in-Err-clause-stops
returns-in-Err-clause-stops g c =
    let said = c.parse.ensures in
    let is : IsNoDay c.args.path.now c.in-Err.fault = no_day c.args.path.now c.parse.result said.not_sds said.not_waveform said.bad_day c.in-Err.fault c.in-Err.is in
    c.tell.ensures.stops is

pub returns-in-Err-clause-does : goal.returns-in-Err-clause-does
returns-in-Err-clause-does g c = visits_nothing _
