use Rattle.std.proofs.lemmas.Result.{err_from_is_err_and}
use Rattle.msr_exchange.proofs.BothWays.{one_stopped, one_then}
use Rattle.msr_exchange.specs.declared.names.Place.TheVariants.{Original, Records}
use Rattle.msr_exchange.proofs.restore.forget_same.Goals as goal

pub returns-in_err-settle : goal.returns-in_err-settle
returns-in_err-settle g c =
    let p = err_from_is_err_and c.from_residual.result c.from_residual.ensures.1 in
    rw (p.1, p.2) (one_stopped c.args.names.now Records Original _ _ _ c.in_err-settle.ensures)

pub returns : goal.returns
returns g c = one_then c.args.names.now Records Original _ _ _ _ c.in_ok-settle.ensures c.forget_settled.ensures
