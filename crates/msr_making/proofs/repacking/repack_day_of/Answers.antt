use Rattle.std.proofs.lemmas.Result.{err_from_is_err_and}
use Rattle.msr_making.proofs.Days.{day_stops}
use Rattle.msr_making.proofs.repacking.repack_day_of.Goals as goal

pub returns-in_err-report-clause-repacks : goal.returns-in_err-report-clause-repacks
returns-in_err-report-clause-repacks g c =
    let p = err_from_is_err_and c.from_residual.result c.from_residual.ensures.1 in
    rw (p.1, p.2) (day_stops _ _ _ _ _ _ _ c.in_err-report.ensures.answer)
