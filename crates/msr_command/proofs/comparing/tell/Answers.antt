use Rattle.std.proofs.lemmas.Result.{err_from_is_err_and}
use Rattle.msr_devices.proofs.Chaining.{takes_none}
use Rattle.msr_command.proofs.comparing.tell.Goals as goal

pub returns-in_err-lines : goal.returns-in_err-lines
returns-in_err-lines g c =
    let p = err_from_is_err_and c.from_residual.result c.from_residual.ensures.1 in
    rw (p.1, p.2) (takes_none (g.O.Sink.device c.args.output.now))
