use Rattle.std.proofs.Common.{rules, refl, true, false, subst, sym, [], ◌∷◌}
use Rattle.std.specs.String.{string_bytes}
use Rattle.msr_folders.specs.Walks.{HoldsAt}
use Rattle.msr_walk.specs.Waiting.{AreWaitingAt, IsNoneWaiting}
use Rattle.std.proofs.lemmas.Result.{err_from_is_err_and}
use Rattle.msr_folders.proofs.WalkedLemmas.{on_ok_as}
use Rattle.msr_walk.proofs.Days.{drops_works, outcome_of, says_dropped, tells_works, waiting_handled}
use Rattle.msr_walk.proofs.EntriesTold.{counted_on, none_told}
use Rattle.msr_walk.proofs.Visited.{visited_day}
use Rattle.msr_walk.proofs.Ours.{none_after}
use Rattle.msr_walk.proofs.Working.{goes_end, goes_waiting, goes_works_none, goes_works_then}
use Rattle.msr_outcomes.specs.Entries.{Entry, IsDayOf}
use Rattle.msr_outcomes.specs.Known.{known_as}
use Rattle.msr_walk.proofs.walker.Walker.visit_day.Goals as goal

pub returns-in_err-channel-clause-stops : goal.returns-in_err-channel-clause-stops
returns-in_err-channel-clause-stops g c =
    let p = err_from_is_err_and c.from_residual.result c.from_residual.ensures.1 in
    rw (p.1, p.2) (none_told _ _)

pub returns-in_err-channel-clause-works : goal.returns-in_err-channel-clause-works
returns-in_err-channel-clause-works g c = goes_works_none c.args.self.now.archive.now _ _

pub make_way-requires-clause-path : goal.make_way-requires-clause-path
make_way-requires-clause-path g c = (c.args.name.now, c.requires.day)

pub returns-in_err-handled-clause-stops : goal.returns-in_err-handled-clause-stops
returns-in_err-handled-clause-stops g c =
    let p = err_from_is_err_and c.from_residual-in_err-handled.result c.from_residual-in_err-handled.ensures.1 in
    rw (p.1, p.2) (none_told _ _)

pub returns-in_err-handled-clause-works : goal.returns-in_err-handled-clause-works
returns-in_err-handled-clause-works g c =
    let p = err_from_is_err_and c.from_residual-in_err-handled.result c.from_residual-in_err-handled.ensures.1 in
    let archive = c.args.self.now.archive.now in
    rw p.1 (goes_works_then archive c.args.self.now.apart false _ _ _ (drops_works archive c.args.path.now _ _ c.make_way.ensures.works) (tells_works archive _ _ _ _ _ _ c.in_err-handled.ensures.goes))

pub returns-in_err-handled-clause-days : goal.returns-in_err-handled-clause-days
returns-in_err-handled-clause-days g c =
    waiting_handled _ c.args.self.now.archive.now c.args.self.now.apart _ c.args.path.now _ _ _ _ _ c.in_err-handled.ensures.goes c.make_way.ensures.none c.make_way.ensures.days

pub wait-requires-clause-days : goal.wait-requires-clause-days
wait-requires-clause-days g c = subst (λ (b : _). AreWaitingAt (g.T.Tree.went c.handle.new.tree) c.args.self.now.archive.now (string_bytes b.folder) b.days.items) (sym c.tell-told.ensures.batch)
    (waiting_handled _ c.args.self.now.archive.now c.args.self.now.apart _ c.args.path.now _ _ _ _ _ c.in_ok-handled.ensures.goes c.make_way.ensures.none c.make_way.ensures.days)

pub wait-requires-clause-path : goal.wait-requires-clause-path
wait-requires-clause-path g c = (c.args.name.now, c.requires.day)

pub wait-requires-clause-none : goal.wait-requires-clause-none
wait-requires-clause-none g c = subst (λ (b : _). HoldsAt (g.T.Tree.went c.handle.new.tree) (λ past. IsNoneWaiting c.args.self.now.archive.now c.args.path.now b.days.items)) (sym c.tell-told.ensures.batch)
    (none_after c.args.self.now.archive.now c.args.path.now _ _ _ _ c.in_ok-handled.ensures.goes c.make_way.ensures.none)

pub returns-clause-told : goal.returns-clause-told
returns-clause-told g c =
    let day : IsDayOf c.args.path.now c.as_str.result.now = record { name = c.args.name.now; reads = c.requires.day; channel_is = search rules } in
    let entry : Entry = record { path = c.args.path.now; channel = c.as_str.result.now; outcome = known_as c.args.self.now.archive.now.known c.args.path.now c.in_ok-handled.handled.outcome } in
    let told = counted_on (λ of. of.tally) c.args.self.now.archive.now (entry ∷ []) (g.O.Sink.device c.args.out.now) (g.O.Sink.device c.tell-told.new.out) c.args.progress.now c.wait.new.self _ _ c.tell-told.result
    (c.tell-told.ensures.told (outcome_of _ _ _ _ day c.in_ok-handled.ensures.told)) refl c.wait.ensures.tally in
    λ kind there. on_ok_as c.tell-told.result (λ told. visited_day (λ of. of.tally) c.args.self.now.archive.now (λ told. told.outcome) c.in_ok-handled.handled
    c.args.path.now c.as_str.result.now kind (g.T.Tree.went c.args.tree.now) (g.T.Tree.went c.handle.new.tree) (g.T.Tree.went c.wait.new.tree)
    (g.O.Sink.device c.args.out.now) (g.O.Sink.device c.tell-told.new.out) c.args.progress.now c.wait.new.self
    c.args.self.now.apart there (c.args.name.now, c.requires.day)
    (says_dropped (λ told. told.outcome) c.args.self.now.archive.now c.args.self.now.apart _ c.args.path.now _ _ _ _ (c.args.name.now, c.requires.day) c.make_way.ensures.works c.in_ok-handled.ensures.goes) c.wait.ensures.works told) told

pub returns-clause-stops : goal.returns-clause-stops
returns-clause-stops g c =
    let day : IsDayOf c.args.path.now c.as_str.result.now = record { name = c.args.name.now; reads = c.requires.day; channel_is = search rules } in
    c.tell-told.ensures.stops (outcome_of _ _ _ _ day c.in_ok-handled.ensures.told)

pub returns-clause-works : goal.returns-clause-works
returns-clause-works g c =
    let archive = c.args.self.now.archive.now in
    goes_end archive _ _ _ (goes_works_then archive c.args.self.now.apart true _ _ _ (drops_works archive c.args.path.now _ _ c.make_way.ensures.works)
    (goes_works_then archive c.args.self.now.apart true _ _ _ (tells_works archive _ _ _ _ _ _ c.in_ok-handled.ensures.goes) (goes_waiting archive true _ _ c.wait.ensures.works)))
