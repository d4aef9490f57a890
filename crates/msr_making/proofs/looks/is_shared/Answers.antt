use Rattle.std.proofs.lemmas.Result.{err_from_is_err_and}
use Rattle.std.proofs.Common.{Ok, false}
use Rattle.msr_making.specs.Places.{paths_at}
use Rattle.msr_making.proofs.Lefts.{shared_three}
use Rattle.msr_making.proofs.Sights.{asks_none, asks_nothing, asks_then_none, said_nothing}
use Rattle.msr_making.proofs.looks.is_shared.Goals as goal

pub returns-in_default : goal.returns-in_default
returns-in_default g c = asks_nothing _ (Ok false) _ (λ p. λ is. absurd cc)

pub returns-in_err-is_records : goal.returns-in_err-is_records
returns-in_err-is_records g c =
    let p = err_from_is_err_and c.from_residual.result c.from_residual.ensures.1 in
    rw (p.1, p.2) (asks_none _ _ _ _ _ c.in_err-is_records.ensures)

pub returns-in_err-is_report : goal.returns-in_err-is_report
returns-in_err-is_report g c =
    let p = err_from_is_err_and c.from_residual-in_err-is_report.result c.from_residual-in_err-is_report.ensures.1 in
    rw (p.1, p.2) (asks_then_none _ _ _ _ _ _ _ _ c.in_ok-is_records.ensures c.in_err-is_report.ensures)

pub returns-in_err-is_stamp : goal.returns-in_err-is_stamp
returns-in_err-is_stamp g c =
    let p = err_from_is_err_and c.from_residual-in_err-is_stamp.result c.from_residual-in_err-is_stamp.ensures.1 in
    rw (p.1, p.2) (asks_then_none _ said_nothing _ _ _ _ _ _ c.in_ok-is_records.ensures (asks_then_none _ _ said_nothing _ _ _ _ _ c.in_ok-is_report.ensures c.in_err-is_stamp.ensures))

pub returns : goal.returns
returns g c = shared_three (paths_at c.args.places) c.in_ok-is_records.is_records c.in_ok-is_report.is_report c.in_ok-is_stamp.is_stamp _ _ _ _ c.in_ok-is_records.ensures c.in_ok-is_report.ensures c.in_ok-is_stamp.ensures
