use Rattle.std.proofs.Common.{[], false}
use Rattle.std.proofs.lemmas.Result.{err_from_is_err_and}
use Rattle.msr_devices.proofs.Chaining.{calm_calm}
use Rattle.msr_tool.proofs.StoppedRepacks.{ok_tells}
use Rattle.msr_walk.proofs.Archive.{tree_ends}
use Rattle.msr_walk.proofs.EntriesTold.{stop_tells, stops_entries, stops_summary, tells_end, told_among, walk_ends, walk_stops}
use Rattle.msr_walk.proofs.Aside.{separate}
use Rattle.msr_walk.proofs.Ours.{wait_none}
use Rattle.msr_walk.proofs.Working.{goes_ended, goes_keeps, goes_safe, goes_stays}
use Rattle.msr_walk.specs.Walk.{TellsOutcomes}
use Rattle.msr_walk.proofs.folders.walk.Goals as goal

pub invariant_of-walker : goal.invariant_of-walker
invariant_of-walker g c = record { apart = c.requires.apart; separate = separate c.args.archive.now.folders c.requires.apart }

pub visit-requires-clause-days : goal.visit-requires-clause-days
visit-requires-clause-days g c = wait_none c.args.archive.now _ _ _ c.new-progress.ensures.waits

pub returns-in_err-visit-clause-answer : goal.returns-in_err-visit-clause-answer
returns-in_err-visit-clause-answer g c =
    let p = err_from_is_err_and c.from_residual.result c.from_residual.ensures.1 in
    let fault = c.in_err-visit.field-0.0 in
    rw (p.1, p.2) (walk_stops _ _ _ fault (stops_entries _ _ _ fault c.in_err-visit.ensures.stops))

pub returns-in_err-visit-clause-write : goal.returns-in_err-visit-clause-write
returns-in_err-visit-clause-write g c =
    let p = err_from_is_err_and c.from_residual.result c.from_residual.ensures.1 in
    rw (p.1, p.2) (stop_tells _ _ _ c.in_err-visit.field-0.0 c.in_err-visit.ensures.stops)

pub returns-in_err-visit-clause-root : goal.returns-in_err-visit-clause-root
returns-in_err-visit-clause-root g c = goes_stays c.args.archive.now c.requires.apart _ _ _ c.in_err-visit.ensures.does

pub returns-in_err-visit-clause-killed : goal.returns-in_err-visit-clause-killed
returns-in_err-visit-clause-killed g c = goes_keeps c.args.archive.now _ _ _ c.in_err-visit.ensures.does

pub returns-in_err-visit-clause-safe : goal.returns-in_err-visit-clause-safe
returns-in_err-visit-clause-safe g c = goes_safe c.args.archive.now false _ _ (goes_ended c.args.archive.now _ _ _ c.in_err-visit.ensures.does)

pub returns-in_err-write_summary-clause-answer : goal.returns-in_err-write_summary-clause-answer
returns-in_err-write_summary-clause-answer g c =
    let p = err_from_is_err_and c.from_residual-in_err-write_summary.result
    c.from_residual-in_err-write_summary.ensures.1 in
    let fault = c.in_err-write_summary.field-0.0 in
    let told : TellsOutcomes c.args.archive.now _ _ _ _ = told_among (λ of. of.tally) c.args.archive.now _ _ _ _ _ c.in_ok-visit.ensures.told.told in
    let front = c.in_err-write_summary.ensures.stops told.entries (told.counts [] c.new-progress.ensures.empty) in
    rw (p.1, p.2) (walk_stops _ _ _ fault (stops_summary _ _ _ _ _ _ fault told front))

pub returns-in_err-write_summary-clause-write : goal.returns-in_err-write_summary-clause-write
returns-in_err-write_summary-clause-write g c =
    let p = err_from_is_err_and c.from_residual-in_err-write_summary.result
    c.from_residual-in_err-write_summary.ensures.1 in
    let fault = c.in_err-write_summary.field-0.0 in
    let told : TellsOutcomes c.args.archive.now _ _ _ _ = told_among (λ of. of.tally) c.args.archive.now _ _ _ _ _ c.in_ok-visit.ensures.told.told in
    let front = c.in_err-write_summary.ensures.stops told.entries (told.counts [] c.new-progress.ensures.empty) in
    rw (p.1, p.2) (stop_tells _ _ _ fault (stops_summary _ _ _ _ _ _ fault told front))

pub returns-in_err-write_summary-clause-root : goal.returns-in_err-write_summary-clause-root
returns-in_err-write_summary-clause-root g c = goes_stays c.args.archive.now c.requires.apart _ _ _ c.in_ok-visit.ensures.does

pub returns-in_err-write_summary-clause-killed : goal.returns-in_err-write_summary-clause-killed
returns-in_err-write_summary-clause-killed g c = goes_keeps c.args.archive.now _ _ _ c.in_ok-visit.ensures.does

pub returns-in_err-write_summary-clause-safe : goal.returns-in_err-write_summary-clause-safe
returns-in_err-write_summary-clause-safe g c = goes_safe c.args.archive.now false _ _ (goes_ended c.args.archive.now _ _ _ c.in_ok-visit.ensures.does)

pub returns-clause-answer : goal.returns-clause-answer
returns-clause-answer g c =
    let told : TellsOutcomes c.args.archive.now _ _ _ _ = told_among (λ of. of.tally) c.args.archive.now _ _ _ _ _ c.in_ok-visit.ensures.told.told in
    let counts = told.counts [] c.new-progress.ensures.empty in
    walk_ends _ _ _ _ _ _ _ told (c.in_ok-write_summary.ensures.all told.entries counts)
    (tells_end _ _ _ counts (rw c.saturating_add-made.ensures at (rw c.saturating_add-days.ensures at (rw c.saturating_add-days-2.ensures at c.of.ensures)))) counts.unopened

pub returns-clause-write : goal.returns-clause-write
returns-clause-write g c =
    let told : TellsOutcomes c.args.archive.now _ _ _ _ = told_among (λ of. of.tally) c.args.archive.now _ _ _ _ _ c.in_ok-visit.ensures.told.told in
    ok_tells _ _ _ _ (calm_calm _ _ _ told.calm c.in_ok-write_summary.ensures.calm).steady

pub returns-clause-tree : goal.returns-clause-tree
returns-clause-tree g c =
    let visits = c.in_ok-visit.ensures.told in
    let counts = visits.told.told.counts [] c.new-progress.ensures.empty in
    tree_ends (λ of. of.tally) c.args.archive.now _ _ _ _ _ _ _ _ visits (c.in_ok-write_summary.ensures.all visits.told.told.entries counts)
    (record { end = tells_end _ _ _ counts (rw c.saturating_add-made.ensures at (rw c.saturating_add-days.ensures at (rw c.saturating_add-days-2.ensures at c.of.ensures))); first = counts.unopened })

pub returns-clause-root : goal.returns-clause-root
returns-clause-root g c = goes_stays c.args.archive.now c.requires.apart _ _ _ c.in_ok-visit.ensures.does

pub returns-clause-killed : goal.returns-clause-killed
returns-clause-killed g c = goes_keeps c.args.archive.now _ _ _ c.in_ok-visit.ensures.does

pub returns-clause-safe : goal.returns-clause-safe
returns-clause-safe g c = goes_safe c.args.archive.now false _ _ (goes_ended c.args.archive.now _ _ _ c.in_ok-visit.ensures.does)
