use Rattle.std.proofs.lemmas.Result.{err_from_is_err_and}
use Rattle.msr_exchange.proofs.BothWays.{both_stopped, both_then, day_stopped}
use Rattle.msr_exchange.specs.declared.names.Place.TheVariants.{Original, Records}
use Rattle.msr_exchange.proofs.restore.settle_both.Goals as goal

pub returns-in_err-settle : goal.returns-in_err-settle
returns-in_err-settle g c =
    let p = err_from_is_err_and c.from_residual.result c.from_residual.ensures.1 in
    rw (p.1, p.2) (day_stopped c.args.names.now Records Original _ _ _ c.in_err-settle.ensures)

pub returns-in_err-settle-2 : goal.returns-in_err-settle-2
returns-in_err-settle-2 g c =
    let p = err_from_is_err_and c.from_residual-in_err-settle-2.result c.from_residual-in_err-settle-2.ensures.1 in
    rw (p.1, p.2) (both_stopped c.args.names.now Records Original _ _ _ c.in_ok-settle.ensures _ c.in_err-settle-2.ensures)

pub returns : goal.returns
returns g c = both_then c.args.names.now Records Original _ _ _ c.in_ok-settle.ensures _ _ c.in_ok-settle-2.ensures c.give_back.ensures
