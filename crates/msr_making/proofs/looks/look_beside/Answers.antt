use Rattle.std.proofs.lemmas.Result.{err_from_is_err_and}
use Rattle.msr_making.specs.Looking.{SaysSight}
use Rattle.msr_making.specs.Places.{paths_at}
use Rattle.msr_making.proofs.Sights.{asks_none, asks_then_none, beside_three}
use Rattle.msr_making.proofs.looks.look_beside.Goals as goal

pub returns-in_err-input : goal.returns-in_err-input
returns-in_err-input g c =
    let p = err_from_is_err_and c.from_residual.result c.from_residual.ensures.1 in
    rw (p.1, p.2) (asks_none _ _ _ _ _ c.in_err-input.ensures)

pub returns-in_err-records : goal.returns-in_err-records
returns-in_err-records g c =
    let p = err_from_is_err_and c.from_residual-in_err-records.result c.from_residual-in_err-records.ensures.1 in
    rw (p.1, p.2) (asks_then_none _ _ _ _ _ _ _ _ c.in_ok-input.ensures c.in_err-records.ensures)

pub returns-in_err-report : goal.returns-in_err-report
returns-in_err-report g c =
    let p = err_from_is_err_and c.from_residual-in_err-report.result c.from_residual-in_err-report.ensures.1 in
    rw (p.1, p.2) (asks_then_none _ _ _ _ _ _ _ _ c.in_ok-input.ensures (asks_then_none _ (SaysSight (paths_at c.args.places).report) (SaysSight (paths_at c.args.places).report) _ _ _ _ _ c.in_ok-records.ensures c.in_err-report.ensures))

pub returns : goal.returns
returns g c = beside_three (paths_at c.args.places) c.args.stamp c.in_ok-input.input c.in_ok-records.records c.in_ok-report.report _ _ _ _ c.in_ok-input.ensures c.in_ok-records.ensures c.in_ok-report.ensures
