use Rattle.std.proofs.lemmas.Result.{err_from_is_err_and}
use Rattle.msr_command.proofs.Inputs.{still_only}
use Rattle.msr_command.proofs.files.create_report.Goals as goal

pub returns-in_err-input-clause-went : goal.returns-in_err-input-clause-went
returns-in_err-input-clause-went g c =
    let p = err_from_is_err_and c.from_residual.result c.from_residual.ensures.1 in
    rw (p.1, p.2) (still_only c.args.name.now)
