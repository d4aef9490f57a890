use Rattle.std.proofs.lemmas.Result.{err_from_is_err_and}
use Rattle.msr_exchange.proofs.BothWays.{apart_then, asked_stopped, asked_told, same_stopped, same_then}
use Rattle.msr_exchange.specs.declared.told.Told.TheVariants as told
use Rattle.msr_exchange.specs.declared.names.Place.TheVariants.{Original, Records}
use Rattle.msr_exchange.proofs.restore.change_back.Goals as goal

pub returns-in_err-look_alike : goal.returns-in_err-look_alike
returns-in_err-look_alike g c =
    let p = err_from_is_err_and c.from_residual.result c.from_residual.ensures.1 in
    rw (p.1, p.2) (asked_stopped c.args.names.now Records Original _ _ _ c.in_err-look_alike.ensures)

pub returns-then-not-branch : goal.returns-then-not-branch
returns-then-not-branch g c = asked_told c.args.names.now Records Original c.in_ok-look_alike.field-0 (told.Refused _) _ _ (λ is. cc) (λ is. cc) c.in_ok-look_alike.ensures

pub returns-in_err-is_same : goal.returns-in_err-is_same
returns-in_err-is_same g c =
    let p = err_from_is_err_and c.from_residual-in_err-is_same.result c.from_residual-in_err-is_same.ensures.1 in
    rw (p.1, p.2) (same_stopped c.args.names.now Records Original c.in_ok-look_alike.field-0 _ _ _ _ _ c.at.ensures c.at-2.ensures c.in_ok-look_alike.ensures _ c.in_err-is_same.ensures)

pub returns-then-branch : goal.returns-then-branch
returns-then-branch g c =
    same_then c.args.names.now Records Original c.in_ok-look_alike.field-0 _ _ _ _ _ c.at.ensures c.at-2.ensures c.in_ok-look_alike.ensures c.in_ok-is_same.field-0 _ _ c.if-branch.true c.in_ok-is_same.ensures c.forget_same.ensures

pub returns : goal.returns
returns g c =
    apart_then c.args.names.now Records Original c.in_ok-look_alike.field-0 _ _ _ _ _ c.at.ensures c.at-2.ensures c.in_ok-look_alike.ensures c.in_ok-is_same.field-0 _ _ c.if-branch.false c.in_ok-is_same.ensures c.settle_both.ensures
