use Rattle.std.proofs.lemmas.Result.{err_from_is_err_and}
use Rattle.msr_exchange.proofs.BothWays.{apart_then, asked_stopped, asked_told, same_stopped, same_then}
use Rattle.msr_exchange.specs.declared.told.Told.TheVariants as told
use Rattle.msr_exchange.specs.declared.names.Place.TheVariants.{Original, Records}
use Rattle.msr_exchange.proofs.exchange.replace_day.Goals as goal

pub returns-in_err-are_still : goal.returns-in_err-are_still
returns-in_err-are_still g c =
    let p = err_from_is_err_and c.from_residual.result c.from_residual.ensures.1 in
    rw (p.1, p.2) (asked_stopped c.args.names.now Original Records _ _ _ c.in_err-are_still.ensures)

pub returns-then-not-branch : goal.returns-then-not-branch
returns-then-not-branch g c = asked_told c.args.names.now Original Records c.in_ok-are_still.field-0 told.Changed _ _ (λ is. cc) (λ is. cc) c.in_ok-are_still.ensures

pub returns-in_err-is_same : goal.returns-in_err-is_same
returns-in_err-is_same g c =
    let p = err_from_is_err_and c.from_residual-in_err-is_same.result c.from_residual-in_err-is_same.ensures.1 in
    rw (p.1, p.2) (same_stopped c.args.names.now Original Records c.in_ok-are_still.field-0 _ _ _ _ _ c.at.ensures c.at-2.ensures c.in_ok-are_still.ensures _ c.in_err-is_same.ensures)

pub returns-then-branch : goal.returns-then-branch
returns-then-branch g c =
    same_then c.args.names.now Original Records c.in_ok-are_still.field-0 _ _ _ _ _ c.at.ensures c.at-2.ensures c.in_ok-are_still.ensures c.in_ok-is_same.field-0 _ _ c.if-branch.true c.in_ok-is_same.ensures c.drop_same.ensures

pub returns : goal.returns
returns g c =
    apart_then c.args.names.now Original Records c.in_ok-are_still.field-0 _ _ _ _ _ c.at.ensures c.at-2.ensures c.in_ok-are_still.ensures c.in_ok-is_same.field-0 _ _ c.if-branch.false c.in_ok-is_same.ensures c.settle_both.ensures
