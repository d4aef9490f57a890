use Rattle.std.proofs.lemmas.Result.{err_from_is_err_and}
use Rattle.msr_command.proofs.Endings.{feed_done, feed_stops, feed_unsettled}
use Rattle.msr_command.proofs.tasks.feed_to.Goals as goal

pub returns-in_err-feed_and_report : goal.returns-in_err-feed_and_report
returns-in_err-feed_and_report g c =
    let p = err_from_is_err_and c.from_residual.result c.from_residual.ensures.1 in
    rw (p.1, p.2) (feed_stops _ _ _ _ _ _ _ c.in_err-feed_and_report.ensures.answer)

pub returns-in_err-settle_standard_output : goal.returns-in_err-settle_standard_output
returns-in_err-settle_standard_output g c =
    let p = err_from_is_err_and c.from_residual-in_err-settle_standard_output.result
    c.from_residual-in_err-settle_standard_output.ensures.1 in
    rw (p.1, p.2, c.in_err-settle_standard_output.ensures)
    (feed_unsettled c.args.options _ (g.I.Source.device c.args.input.now) (g.O.Sink.device c.args.output.now)
    (g.O.Sink.device c.feed_and_report.new.records) (feed_done _ _ _ _ _ _ _ c.in_ok-feed_and_report.ensures.answer))

pub returns-in_err-settle : goal.returns-in_err-settle
returns-in_err-settle g c =
    let p = err_from_is_err_and c.from_residual-in_err-settle.result c.from_residual-in_err-settle.ensures.1 in
    rw (p.1, p.2, c.in_err-settle.ensures) (feed_unsettled c.args.options _ (g.I.Source.device c.args.input.now) (g.O.Sink.device c.args.output.now)
    (g.O.Sink.device c.feed_and_report.new.records)
    (feed_done _ _ _ _ _ _ _ c.in_ok-feed_and_report.ensures.answer))

pub returns : goal.returns
returns g c = feed_done _ _ _ _ _ _ _ c.in_ok-feed_and_report.ensures.answer
