use Rattle.std.proofs.lemmas.Result.{err_from_is_err_and}
use Rattle.msr_replace.proofs.Exchanged.{restored_stopped, restored_then}
use Rattle.msr_replace.proofs.day.restore_stamped.Goals as goal

pub returns-in_err-answer : goal.returns-in_err-answer
returns-in_err-answer g c =
    let p = err_from_is_err_and c.from_residual.result c.from_residual.ensures.1 in
    rw (p.1, p.2) (restored_stopped c.args.names.now c.args.stamp.now c.requires.stamp _ _ _ c.in_err-answer.ensures)

pub returns : goal.returns
returns g c =
    restored_then c.args.names.now c.args.stamp.now c.requires.stamp c.in_ok-answer.answer _ _ _ c.in_ok-answer.ensures c.stamp_restored.ensures
