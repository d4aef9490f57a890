use Rattle.std.proofs.lemmas.Result.{err_from_is_err_and}
use Rattle.msr_replace.proofs.Exchanged.{replaced_stopped, replaced_then}
use Rattle.msr_replace.proofs.day.replace_stamped.Goals as goal

pub returns-in_err-answer : goal.returns-in_err-answer
returns-in_err-answer g c =
    let p = err_from_is_err_and c.from_residual.result c.from_residual.ensures.1 in
    rw (p.1, p.2) (replaced_stopped c.args.names.now c.args.stamp.now c.requires.stamp c.args.work.now c.args.report.now _ _ _ c.in_err-answer.ensures)

pub returns : goal.returns
returns g c =
    replaced_then c.args.names.now c.args.stamp.now c.requires.stamp c.args.work.now c.args.report.now c.in_ok-answer.answer _ _ _ c.in_ok-answer.ensures c.stamp_replaced.ensures
