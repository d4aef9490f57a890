use Rattle.std.proofs.Common.{refl}
use Rattle.std.proofs.lemmas.Result.{err_from_is_err_and}
use Rattle.msr_exchange.proofs.BothWays.{taken_stopped, taken_then}
use Rattle.msr_exchange.specs.declared.names.Place.TheVariants.{Original, Records}
use Rattle.msr_exchange.proofs.exchange.take.Goals as goal

pub returns-in_err-take_place : goal.returns-in_err-take_place
returns-in_err-take_place g c =
    let p = err_from_is_err_and c.from_residual.result c.from_residual.ensures.1 in
    rw (p.1, p.2) (taken_stopped c.args.names.now Original Records c.requires refl refl refl refl _ _ _ c.in_err-take_place.ensures)

pub returns : goal.returns
returns g c = taken_then c.args.names.now Original Records c.requires refl refl refl refl _ _ _ _ c.in_ok-take_place.ensures c.finish.ensures
