use Rattle.std.proofs.Common.{[]}
use Rattle.std.proofs.lemmas.Result.{err_from_is_err_and}
use Rattle.msr_devices.proofs.Chaining.{calm_calm}
use Rattle.msr_tool.proofs.StoppedRepacks.{ok_tells}
use Rattle.msr_verify.proofs.EntriesFound.{stop_tells, stops_entries, stops_summary, summary_is, tells_end, walk_ends, walk_stops}
use Rattle.msr_verify.proofs.TellingThere.{tree_ends}
use Rattle.msr_verify.proofs.folders.verify.Goals as goal

pub returns-in_err-walk_both-clause-answer : goal.returns-in_err-walk_both-clause-answer
returns-in_err-walk_both-clause-answer g c =
    let p = err_from_is_err_and c.from_residual.result c.from_residual.ensures.1 in
    rw (p.1, p.2) (walk_stops c.args.archive.now _ _ _ (stops_entries c.args.archive.now _ _ c.in_err-walk_both.field-0.0 c.in_err-walk_both.ensures.stops))

pub returns-in_err-walk_both-clause-write : goal.returns-in_err-walk_both-clause-write
returns-in_err-walk_both-clause-write g c =
    let p = err_from_is_err_and c.from_residual.result c.from_residual.ensures.1 in
    rw (p.1, p.2) (stop_tells _ _ _ c.in_err-walk_both.field-0.0 c.in_err-walk_both.ensures.stops)

pub returns-in_err-write-clause-answer : goal.returns-in_err-write-clause-answer
returns-in_err-write-clause-answer g c =
    let p = err_from_is_err_and c.from_residual-in_err-write.result c.from_residual-in_err-write.ensures.1 in
    let fault = c.in_err-write.field-0.0 in
    let told = c.in_ok-walk_both.ensures.told.these.told in
    let line = summary_is c.args.archive.now told.entries _ (told.counts [] c.new-tally.ensures) in
    rw (p.1, p.2) (walk_stops c.args.archive.now _ _ fault (stops_summary c.args.archive.now _ _ _ _ _ fault told (rw line at c.in_err-write.ensures.stops)))

pub returns-in_err-write-clause-write : goal.returns-in_err-write-clause-write
returns-in_err-write-clause-write g c =
    let p = err_from_is_err_and c.from_residual-in_err-write.result c.from_residual-in_err-write.ensures.1 in
    let fault = c.in_err-write.field-0.0 in
    let told = c.in_ok-walk_both.ensures.told.these.told in
    let line = summary_is c.args.archive.now told.entries _ (told.counts [] c.new-tally.ensures) in
    rw (p.1, p.2) (stop_tells _ _ _ fault (stops_summary c.args.archive.now _ _ _ _ _ fault told (rw line at c.in_err-write.ensures.stops)))

pub returns-clause-answer : goal.returns-clause-answer
returns-clause-answer g c =
    let told = c.in_ok-walk_both.ensures.told.these.told in
    let counts = told.counts [] c.new-tally.ensures in
    let line = summary_is c.args.archive.now told.entries _ counts in
    walk_ends c.args.archive.now _ _ _ _ _ _ told (rw line at c.in_ok-write.ensures.all) (tells_end _ _ _ counts (rw c.saturating_add-well.ensures at c.of.ensures))

pub returns-clause-write : goal.returns-clause-write
returns-clause-write g c =
    let out0 = g.O.Sink.device c.args.out.now in
    let out1 = g.O.Sink.device c.walk_both.new.out in
    let out = g.O.Sink.device c.write.new.out in
    ok_tells out0 out _ _ (calm_calm out0 out1 out c.in_ok-walk_both.ensures.told.these.told.calm c.in_ok-write.ensures.calm).steady

pub returns-clause-tree : goal.returns-clause-tree
returns-clause-tree g c =
    let archive = c.in_ok-walk_both.ensures.told in
    let told = archive.these.told in
    let counts = told.counts [] c.new-tally.ensures in
    let line = summary_is c.args.archive.now told.entries _ counts in
    tree_ends c.args.archive.now (g.T.Tree.went c.args.tree.now) (g.T.Tree.went c.walk_both.new.tree)
    (g.O.Sink.device c.args.out.now) (g.O.Sink.device c.walk_both.new.out) (g.O.Sink.device c.write.new.out) _ _ _
    archive (rw line at c.in_ok-write.ensures.all) (tells_end _ _ _ counts (rw c.saturating_add-well.ensures at c.of.ensures))
