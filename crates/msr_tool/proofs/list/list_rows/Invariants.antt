use Rattle.msr_input.specs.Records.{left_with}
use Rattle.msr_input.specs.Rows.{row_settings}
use Rattle.msr_tool.proofs.ListUnderWay.{UnderList}
use Rattle.msr_tool.proofs.list.list_rows.Given as goal

abbrev pub invariant-rows : goal.invariant-rows
invariant-rows g l = UnderList l.fn.writer.form (row_settings l.fn.reader) (g.R.Source.device l.fn.source)
    (g.R.Source.device l.source) (g.W.Sink.device l.fn.sink) (g.W.Sink.device l.sink) l.reader l.writer

abbrev pub decreases-rows : goal.decreases-rows
decreases-rows g l = left_with (g.R.Source.device l.source) l.reader.position.waiting
