use Rattle.std.proofs.lemmas.Result.{err_from_is_err_and}
use Rattle.msr_making.specs.Places.{paths_at}
use Rattle.msr_making.proofs.Sights.{asks_none, found_day}
use Rattle.msr_making.proofs.looks.look_at_day.Goals as goal

pub returns-in_err-stamp : goal.returns-in_err-stamp
returns-in_err-stamp g c =
    let p = err_from_is_err_and c.from_residual.result c.from_residual.ensures.1 in
    rw (p.1, p.2) (asks_none _ _ _ _ _ c.in_err-stamp.ensures)

pub returns : goal.returns
returns g c = found_day (paths_at c.args.places) c.in_ok-stamp.stamp c.look_beside.result _ _ _ c.in_ok-stamp.ensures c.look_beside.ensures
