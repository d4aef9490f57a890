use Rattle.std.proofs.Common.{rules, ◌≡◌}
use Rattle.std.proofs.lemmas.Result.{err_from_is_err_and}
use Rattle.msr_tree.specs.Steps.{Renamed}
use Rattle.msr_naming.proofs.Plan.{doing, goes_on, goes_same, goes_stops, stopping}
use Rattle.msr_naming.proofs.Stamps.{stamping}
use Rattle.msr_naming.proofs.batch.stamp_all.Goals as goal

pub returns-in_err-rename : goal.returns-in_err-rename
returns-in_err-rename g c =
    let p = err_from_is_err_and c.from_residual.result c.from_residual.ensures.1 in
    let t = c.loop-day-test.true in
    let why = c.in_err-rename.field-0.0 in
    let same : Renamed c.at.result.now c.at-in-loop-day.result.now ≡ stamping c.day-item.result.files = cc (c.at.ensures, c.at-in-loop-day.ensures) in
    rw (p.1, p.2) (goes_stops (λ day. stamping day.files) c.args.days.now c.loop-day.day-index c.day-item.result why _ _ _ (search rules) c.day-item.is c.loop-day.invariant
    (goes_same _ _ (stopping why) _ _ same c.in_err-rename.ensures))

pub loop-day-preserved : goal.loop-day-preserved
loop-day-preserved g c =
    let t = c.loop-day-test.true in
    let same : Renamed c.at.result.now c.at-in-loop-day.result.now ≡ stamping c.day-item.result.files = cc (c.at.ensures, c.at-in-loop-day.ensures) in
    goes_on (λ day. stamping day.files) c.args.days.now c.loop-day.day-index c.day-item.result c.in_ok-rename.field-0 _ _ _ (search rules) c.day-item.is c.loop-day.invariant
    (goes_same _ _ (doing c.in_ok-rename.field-0) _ _ same c.in_ok-rename.ensures)
