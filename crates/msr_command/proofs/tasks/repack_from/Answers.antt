use Rattle.std.proofs.Common.{◌≡◌, None, rules}
use Rattle.std.proofs.lemmas.Result.{err_from_is_err_and}
use Rattle.msr_command.proofs.Endings.{repack_held, repack_settled, repack_uncreated}
use Rattle.msr_command.proofs.Inputs.{goes_on, goes_still, output_left}
use Rattle.msr_command.proofs.tasks.repack_from.Goals as goal

pub returns-in_default : goal.returns-in_default
returns-in_default g c =
    let is : c.args.to.0 ≡ None = search rules in
    rw is (repack_held c.args.options (g.I.Source.device c.args.source.now) (g.O.Sink.device c.args.output.now)
    (g.O.Sink.device c.repack_to.new.output) c.repack_to.result (λ written takes. goes_still) c.repack_to.ensures)

pub returns-in_err-writer : goal.returns-in_err-writer
returns-in_err-writer g c =
    let p = err_from_is_err_and c.from_residual.result c.from_residual.ensures.1 in
    rw (p.1, p.2) (repack_uncreated c.args.options _ (g.I.Source.device c.args.source.now)
    (g.O.Sink.device c.args.output.now) c.in_err-writer.field-0.0 c.in_err-writer.ensures.stop)

pub returns : goal.returns
returns g c =
    let source = g.I.Source.device c.args.source.now in
    let out0 = g.O.Sink.device c.args.output.now in
    let out = g.O.Sink.device c.repack_to-done.new.output in
    let holds = repack_held c.args.options source out0 out c.repack_to-done.result
    (λ written takes. goes_on (λ old between new begun keeps. output_left c.in-Some-default.name.now
    (g.F.Writer.Sink.device c.in_ok-writer.writer) (g.F.Writer.Sink.device c.repack_to-done.new.to) written old between new
    takes begun keeps) c.in_ok-writer.ensures.went c.leave.ensures) c.repack_to-done.ensures in
    rw c.in-Some-default.is-0 (repack_settled c.args.options _ source out0 out c.repack_to-done.result c.settled-done.result
    c.settled-done.ensures holds)
