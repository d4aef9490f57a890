use Rattle.std.proofs.lemmas.Result.{err_from_is_err_and}
use Rattle.msr_command.proofs.Endings.{task_closed, then_does, task_unsettled}
use Rattle.msr_command.proofs.tasks.do_task.Goals as goal

pub returns-in_default : goal.returns-in_default
returns-in_default g c =
    task_closed (g.F.NamedFiles.went c.args.files.now) (g.F.NamedFiles.went c.end_closed.new.files)
    c.args.task.now (g.I.Source.device c.args.input.now) (g.O.Sink.device c.args.output.now)
    (g.O.Sink.device c.require_open.new.output) c.end_closed.result c.in_default.ensures.0 c.end_closed.ensures

pub returns-in_err-done : goal.returns-in_err-done
returns-in_err-done g c =
    let p = err_from_is_err_and c.from_residual.result c.from_residual.ensures.1 in
    rw (p.1, p.2) (then_does (g.F.NamedFiles.went c.args.files.now) (g.F.NamedFiles.went c.do_open.new.files)
    c.args.task.now (g.I.Source.device c.args.input.now) (g.O.Sink.device c.args.output.now)
    (g.O.Sink.device c.require_open.new.output)
    (g.O.Sink.device c.do_open.new.output) _ c.in-Ok.ensures.0 c.in_err-done.ensures)

pub returns-in_err-settle_standard_output : goal.returns-in_err-settle_standard_output
returns-in_err-settle_standard_output g c =
    let p = err_from_is_err_and c.from_residual-in_err-settle_standard_output.result
    c.from_residual-in_err-settle_standard_output.ensures.1 in
    let does = then_does (g.F.NamedFiles.went c.args.files.now) (g.F.NamedFiles.went c.do_open.new.files)
    c.args.task.now (g.I.Source.device c.args.input.now) (g.O.Sink.device c.args.output.now)
    (g.O.Sink.device c.require_open.new.output)
    (g.O.Sink.device c.do_open.new.output) _ c.in-Ok.ensures.0 c.in_ok-done.ensures in
    rw (p.1, p.2, c.in_err-settle_standard_output.ensures)
    (task_unsettled (g.F.NamedFiles.went c.args.files.now) (g.F.NamedFiles.went c.do_open.new.files)
    c.args.task.now (g.I.Source.device c.args.input.now) (g.O.Sink.device c.args.output.now)
    (g.O.Sink.device c.do_open.new.output) c.in_ok-done.done does)

pub returns : goal.returns
returns g c =
    then_does (g.F.NamedFiles.went c.args.files.now) (g.F.NamedFiles.went c.do_open.new.files)
    c.args.task.now (g.I.Source.device c.args.input.now) (g.O.Sink.device c.args.output.now)
    (g.O.Sink.device c.require_open.new.output)
    (g.O.Sink.device c.do_open.new.output) _ c.in-Ok.ensures.0 c.in_ok-done.ensures
