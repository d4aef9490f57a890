use Rattle.std.proofs.lemmas.Result.{err_from_is_err_and}
use Rattle.msr_command.proofs.Endings.{fed, feed_uncreated, unfed}
use Rattle.msr_command.proofs.Inputs.{goes_on, output_emptied, output_left}
use Rattle.msr_command.proofs.tasks.feed_input.Goals as goal

pub returns-in_err-writer : goal.returns-in_err-writer
returns-in_err-writer g c =
    let p = err_from_is_err_and c.from_residual.result c.from_residual.ensures.1 in
    rw (p.1, p.2) (feed_uncreated _ _ c.args.asked.now (g.I.Source.device c.args.input.now)
    (g.O.Sink.device c.args.output.now) c.in_err-writer.field-0.0 c.in_err-writer.ensures.stop)

pub returns-in-Ok : goal.returns-in-Ok
returns-in-Ok g c = fed (g.F.NamedFiles.went c.args.files.now) (g.F.NamedFiles.went c.leave.new.self) c.args.asked.now _
    (g.I.Source.device c.args.input.now) (g.O.Sink.device c.args.output.now) (g.O.Sink.device c.feed_to.new.output)
    (λ told takes. goes_on (λ old between new begun keeps. output_left c.args.asked.now.report.now
    (g.F.Writer.Sink.device c.in_ok-writer.writer) (g.F.Writer.Sink.device c.feed_to.new.writer) told old between new
    takes begun keeps) c.in_ok-writer.ensures.went c.leave.ensures) c.in-Ok.ensures

pub returns-in-Err : goal.returns-in-Err
returns-in-Err g c = unfed (g.F.NamedFiles.went c.args.files.now) (g.F.NamedFiles.went c.empty.new.self) c.args.asked.now _
    (g.I.Source.device c.args.input.now) (g.O.Sink.device c.args.output.now) (g.O.Sink.device c.feed_to.new.output) c.in-Err.fault
    (λ told takes. goes_on (λ old between new begun empties. output_emptied c.args.asked.now.report.now
    (g.F.Writer.Sink.device c.in_ok-writer.writer) (g.F.Writer.Sink.device c.feed_to.new.writer) told old between new
    takes begun empties) c.in_ok-writer.ensures.went c.empty.ensures) c.in-Err.ensures
