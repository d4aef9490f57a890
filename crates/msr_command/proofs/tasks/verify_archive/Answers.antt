use Rattle.std.proofs.lemmas.Result.{err_from_is_err_and}
use Rattle.msr_command.proofs.Endings.{unwalked, verify_unbegun}
use Rattle.msr_command.proofs.tasks.verify_archive.Goals as goal

pub returns-in_err-require_apart : goal.returns-in_err-require_apart
returns-in_err-require_apart g c =
    let p = err_from_is_err_and c.from_residual.result c.from_residual.ensures.1 in
    rw (p.1, p.2) (verify_unbegun (g.F.NamedFiles.went c.args.files.now) c.args.asked.now (g.O.Sink.device c.args.output.now) _ (unwalked c.args.asked.now.known _ c.in_err-require_apart.ensures))

pub returns-in_err-found : goal.returns-in_err-found
returns-in_err-found g c =
    let p = err_from_is_err_and c.from_residual-in_err-found.result c.from_residual-in_err-found.ensures.1 in
    rw (p.1, p.2) c.in_err-found.ensures

pub returns : goal.returns
returns g c = rw (c.of_walk.ensures, c.is_empty.ensures) c.in_ok-found.ensures
