use Rattle.std.proofs.Common.{rules, ◌≡◌}
use Rattle.std.proofs.lemmas.Result.{err_from_is_err_and}
use Rattle.msr_folders.proofs.ReadingLemmas.{visits_nothing}
use Rattle.msr_folders.proofs.WalkedLemmas.{on_ok_as}
use Rattle.msr_folders.specs.Paths.{joined}
use Rattle.msr_outcomes.specs.Entries.{IsDayOf}
use Rattle.msr_trial.proofs.Packed.{tried_as}
use Rattle.msr_trial.proofs.Told.{none_told, tries_looks, visited_day}
use Rattle.msr_trial.specs.Entries.{IsTriedAs}
use Rattle.msr_trial.proofs.walk.Trier.visit_day.Goals as goal

pub returns-in_err-channel-clause-stops : goal.returns-in_err-channel-clause-stops
returns-in_err-channel-clause-stops g c =
    let p = err_from_is_err_and c.from_residual.result c.from_residual.ensures.1 in
    rw (p.1, p.2) (none_told _ _)

pub returns-in_err-channel-clause-does : goal.returns-in_err-channel-clause-does
returns-in_err-channel-clause-does g c = visits_nothing _

pub returns-in_err-input-clause-stops : goal.returns-in_err-input-clause-stops
returns-in_err-input-clause-stops g c =
    let p = err_from_is_err_and c.from_residual-in_err-input.result c.from_residual-in_err-input.ensures.1 in
    rw (p.1, p.2) (none_told _ _)

pub returns-in_err-input-clause-does : goal.returns-in_err-input-clause-does
returns-in_err-input-clause-does g c = visits_nothing _

pub returns-in_err-outcome-clause-stops : goal.returns-in_err-outcome-clause-stops
returns-in_err-outcome-clause-stops g c =
    let p = err_from_is_err_and c.from_residual-in_err-outcome.result c.from_residual-in_err-outcome.ensures.1 in
    rw (p.1, p.2) (none_told _ _)

pub returns-in_err-outcome-clause-does : goal.returns-in_err-outcome-clause-does
returns-in_err-outcome-clause-does g c = tries_looks _ _ _ _ _ c.in_err-outcome.ensures.goes

pub returns-clause-told : goal.returns-clause-told
returns-clause-told g c =
    let days = c.args.self.now.asked.now.days in
    let root = c.args.self.now.asked.now.root.now in
    let day : IsDayOf c.args.path.now c.as_str-2.result.now = search rules in
    let at : c.as_str.result.now ≡ joined root c.args.path.now = search rules in
    let is : IsTriedAs days c.args.path.now c.as_str-2.result.now c.in_ok-outcome.outcome = tried_as days _ _ _ day c.in_ok-outcome.ensures.told in
    λ kind there. on_ok_as c.tell.result (λ told. visited_day days root c.args.path.now c.as_str-2.result.now c.in_ok-outcome.outcome kind
    (g.T.Tree.went c.args.tree.now) (g.T.Tree.went c.try_day.new.tree) (g.O.Sink.device c.args.out.now) (g.O.Sink.device c.tell.new.out)
    c.args.tally.now c.tell.new.tally there (c.args.name.now, c.requires.day) (rw at at c.in_ok-outcome.ensures.goes) told) (c.tell.ensures.told is)

pub returns-clause-stops : goal.returns-clause-stops
returns-clause-stops g c =
    let day : IsDayOf c.args.path.now c.as_str-2.result.now = search rules in
    c.tell.ensures.stops (tried_as c.args.self.now.asked.now.days _ _ _ day c.in_ok-outcome.ensures.told)

pub returns-clause-does : goal.returns-clause-does
returns-clause-does g c = tries_looks _ _ _ _ _ c.in_ok-outcome.ensures.goes
