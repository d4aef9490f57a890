use Rattle.std.proofs.lemmas.Result.{err_from_is_err_and}
use Rattle.msr_command.proofs.Endings.{repack_done, repack_stops}
use Rattle.msr_command.proofs.tasks.repack_to.Goals as goal

pub returns-in_err-report : goal.returns-in_err-report
returns-in_err-report g c =
    let p = err_from_is_err_and c.from_residual.result c.from_residual.ensures.1 in
    rw (p.1, p.2) (repack_stops _ _ _ _ _ _ _ c.in_err-report.ensures.answer)

pub returns : goal.returns
returns g c = repack_done _ _ _ _ _ _ _ _ c.in_ok-report.ensures.answer c.is_in_turns.ensures
