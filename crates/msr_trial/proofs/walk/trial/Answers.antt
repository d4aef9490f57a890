use Rattle.std.proofs.Common.{[]}
use Rattle.std.proofs.lemmas.Result.{err_from_is_err_and}
use Rattle.msr_devices.proofs.Chaining.{calm_calm}
use Rattle.msr_tool.proofs.StoppedRepacks.{ok_tells}
use Rattle.msr_trial.proofs.Walked.{stop_tells, stops_entries, stops_summary, tells_end, tree_ends, walk_ends, walk_stops}
use Rattle.msr_trial.proofs.walk.trial.Goals as goal

pub returns-in_err-visit_archive-clause-answer : goal.returns-in_err-visit_archive-clause-answer
returns-in_err-visit_archive-clause-answer g c =
    let p = err_from_is_err_and c.from_residual.result c.from_residual.ensures.1 in
    let fault = c.in_err-visit_archive.field-0.0 in
    rw (p.1, p.2) (walk_stops _ _ _ fault (stops_entries _ _ _ fault c.in_err-visit_archive.ensures.stops))

pub returns-in_err-visit_archive-clause-write : goal.returns-in_err-visit_archive-clause-write
returns-in_err-visit_archive-clause-write g c =
    let p = err_from_is_err_and c.from_residual.result c.from_residual.ensures.1 in
    rw (p.1, p.2) (stop_tells _ _ _ c.in_err-visit_archive.field-0.0 c.in_err-visit_archive.ensures.stops)

pub returns-in_err-write_sums-clause-answer : goal.returns-in_err-write_sums-clause-answer
returns-in_err-write_sums-clause-answer g c =
    let p = err_from_is_err_and c.from_residual-in_err-write_sums.result c.from_residual-in_err-write_sums.ensures.1 in
    let fault = c.in_err-write_sums.field-0.0 in
    let told = c.in_ok-visit_archive.ensures.told.told.told in
    let front = c.in_err-write_sums.ensures.stops told.entries (told.counts [] c.new-tally.ensures) in
    rw (p.1, p.2) (walk_stops _ _ _ fault (stops_summary _ _ _ _ _ _ fault told front))

pub returns-in_err-write_sums-clause-write : goal.returns-in_err-write_sums-clause-write
returns-in_err-write_sums-clause-write g c =
    let p = err_from_is_err_and c.from_residual-in_err-write_sums.result c.from_residual-in_err-write_sums.ensures.1 in
    let fault = c.in_err-write_sums.field-0.0 in
    let told = c.in_ok-visit_archive.ensures.told.told.told in
    let front = c.in_err-write_sums.ensures.stops told.entries (told.counts [] c.new-tally.ensures) in
    rw (p.1, p.2) (stop_tells _ _ _ fault (stops_summary _ _ _ _ _ _ fault told front))

pub returns-clause-answer : goal.returns-clause-answer
returns-clause-answer g c =
    let told = c.in_ok-visit_archive.ensures.told.told.told in
    let counts = told.counts [] c.new-tally.ensures in
    walk_ends _ _ _ _ _ _ _ told (c.in_ok-write_sums.ensures.all told.entries counts)
    (record { end = tells_end _ _ _ counts (rw c.saturating_add.ensures at c.of.ensures); first = counts.unopened })

pub returns-clause-write : goal.returns-clause-write
returns-clause-write g c =
    let told = c.in_ok-visit_archive.ensures.told.told.told in
    ok_tells _ _ _ _ (calm_calm _ _ _ told.calm c.in_ok-write_sums.ensures.calm).steady

pub returns-clause-tree : goal.returns-clause-tree
returns-clause-tree g c =
    let visits = c.in_ok-visit_archive.ensures.told in
    let counts = visits.told.told.counts [] c.new-tally.ensures in
    tree_ends c.args.asked.now _ _ _ _ _ _ _ _ visits (c.in_ok-write_sums.ensures.all visits.told.told.entries counts)
    (record { end = tells_end _ _ _ counts (rw c.saturating_add.ensures at c.of.ensures); first = counts.unopened })
