use Rattle.std.proofs.Common.{rules}
use Rattle.std.proofs.lemmas.Result.{err_from_is_err_and}
use Rattle.msr_naming.specs.Naming.{act_step}
use Rattle.msr_naming.proofs.Plan.{goes_on, goes_stops}
use Rattle.msr_naming.proofs.naming.perform.Goals as goal

pub returns-in_err-perform_one : goal.returns-in_err-perform_one
returns-in_err-perform_one g c =
    let p = err_from_is_err_and c.from_residual.result c.from_residual.ensures.1 in
    let t = c.loop-act-test.true in
    rw (p.1, p.2) (goes_stops (act_step c.args.files.now) c.args.acts.now c.loop-act.act-index _ c.in_err-perform_one.field-0.0.fault _ _ _ (search rules) (search rules) c.loop-act.invariant c.in_err-perform_one.ensures)

pub loop-act-preserved : goal.loop-act-preserved
loop-act-preserved g c =
    let t = c.loop-act-test.true in
    goes_on (act_step c.args.files.now) c.args.acts.now c.loop-act.act-index _ c.in_ok-perform_one.field-0 _ _ _ (search rules) (search rules) c.loop-act.invariant c.in_ok-perform_one.ensures
