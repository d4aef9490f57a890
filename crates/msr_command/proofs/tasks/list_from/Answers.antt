use Rattle.std.proofs.Common.{inl, refl}
use Rattle.std.proofs.lemmas.Result.{err_from_is_err_and}
use Rattle.msr_command.proofs.tasks.list_from.Goals as goal

pub returns-in_err-list_segments : goal.returns-in_err-list_segments
returns-in_err-list_segments g c =
    let p = err_from_is_err_and c.from_residual.result c.from_residual.ensures.1 in
    let a = c.in_err-list_segments.ensures.answer in
    rw (p.1, p.2) (record { input = a.0; printed = a.1; come = λ opened. a.2; prints = a.3; ends = inl a.4 })

pub returns : goal.returns
returns g c =
    let a = c.in_ok-list_segments.ensures.answer in
    record { input = a.0; printed = a.1; come = λ opened. a.2; prints = a.3; ends = (refl, record { counts = _; listed = a.4 }) }
