use Rattle.std.proofs.Common.{[]}
use Rattle.std.proofs.lemmas.Result.{err_from_is_err_and}
use Rattle.msr_replace.proofs.LinesTold.{stops_entries, stops_summary, summary_is, tells_end, walk_ends, walk_stops}
use Rattle.msr_replace.proofs.Saying.{tree_ends}
use Rattle.msr_replace.proofs.walk.walk.Goals as goal

pub returns-in_err-walk_all-clause-answer : goal.returns-in_err-walk_all-clause-answer
returns-in_err-walk_all-clause-answer g c =
    let p = err_from_is_err_and c.from_residual.result c.from_residual.ensures.1 in
    let fault = c.in_err-walk_all.field-0.0 in
    let undo = c.args.asked.now.undo in
    rw (p.1, p.2) (walk_stops undo _ _ _ fault (stops_entries undo _ _ fault c.in_err-walk_all.ensures.stops))

pub returns-in_err-write-clause-answer : goal.returns-in_err-write-clause-answer
returns-in_err-write-clause-answer g c =
    let p = err_from_is_err_and c.from_residual-in_err-write.result c.from_residual-in_err-write.ensures.1 in
    let fault = c.in_err-write.field-0.0 in
    let undo = c.args.asked.now.undo in
    let told = c.in_ok-walk_all.ensures.told.tells.told.told in
    let come = told.counts [] c.requires.empty in
    let line = summary_is undo told.entries _ come.counted in
    rw (p.1, p.2) (walk_stops undo _ _ _ fault (stops_summary undo _ _ _ _ _ fault told (rw line at c.in_err-write.ensures.stops)))

pub returns-clause-answer : goal.returns-clause-answer
returns-clause-answer g c =
    let undo = c.args.asked.now.undo in
    let told = c.in_ok-walk_all.ensures.told.tells.told.told in
    let come = told.counts [] c.requires.empty in
    let line = summary_is undo told.entries _ come.counted in
    walk_ends undo _ _ _ _ _ _ told (rw line at c.in_ok-write.ensures.all) (tells_end _ _ _ come.counted c.of.ensures) come.stopped

pub returns-clause-tree : goal.returns-clause-tree
returns-clause-tree g c =
    let undo = c.args.asked.now.undo in
    let courses = c.in_ok-walk_all.ensures.told in
    let told = courses.tells.told.told in
    let come = told.counts [] c.requires.empty in
    let line = summary_is undo told.entries _ come.counted in
    tree_ends c.args.asked.now c.args.work.now (g.T.Tree.went c.args.tree.now) (g.T.Tree.went c.walk_all.new.tree)
    (g.O.Sink.device c.args.out.now) (g.O.Sink.device c.walk_all.new.out) (g.O.Sink.device c.write.new.out) _ _ _
    c.requires.work courses (rw line at c.in_ok-write.ensures.all) (tells_end _ _ _ come.counted c.of.ensures) c.requires.empty
