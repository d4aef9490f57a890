use Rattle.std.proofs.Common.{ap}
use Rattle.msr_segments.specs.Spans.{Following}
use Rattle.msr_tool.proofs.list.list_segments.Goals as goal

pub list_rows-requires-clause-reader : goal.list_rows-requires-clause-reader
list_rows-requires-clause-reader g c =
    let r = c.new-reader.ensures in
    (r.none (g.R.Source.device c.args.source.now), ap (λ (f : Following). f.current) r.following)

pub list_rows-requires-clause-writer : goal.list_rows-requires-clause-writer
list_rows-requires-clause-writer g c =
    let w = c.new-writer.ensures in
    (w.last, w.few_wait, rw (← w.form) at (w.none (g.W.Sink.device c.args.sink.now)))

pub returns : goal.returns
returns g c =
    let r = c.new-reader.ensures in
    rw (c.new-writer.ensures.form, r.following, r.strict, c.settings_of.ensures.same) at c.list_rows.ensures
