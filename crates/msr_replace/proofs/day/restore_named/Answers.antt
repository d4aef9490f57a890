use Rattle.std.proofs.lemmas.Result.{err_from_is_err_and}
use Rattle.msr_replace.proofs.Restored.{restored_ok, restored_stopped}
use Rattle.msr_replace.proofs.day.restore_named.Goals as goal

pub returns-in_err-told : goal.returns-in_err-told
returns-in_err-told g c =
    let p = err_from_is_err_and c.from_residual.result c.from_residual.ensures.1 in
    rw (p.1, p.2) (restored_stopped c.args.names.now _ _ _ c.in_err-told.ensures)

pub returns : goal.returns
returns g c = rw c.restored_of.ensures (restored_ok c.args.names.now c.in_ok-told.told _ _ c.in_ok-told.ensures)
