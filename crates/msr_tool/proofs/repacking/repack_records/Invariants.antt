use Rattle.std.proofs.Common.{◌≡◌}
use Rattle.msr_input.specs.Records.{left_with}
use Rattle.msr_tool.specs.declared.repacking.Flush.TheVariants.{BeforeReads}
use Rattle.msr_tool.proofs.RepackUnderWay.{IsReady, UnderWay}
use Rattle.msr_tool.proofs.repacking.repack_records.Given as goal

abbrev pub invariant-records : goal.invariant-records
invariant-records g l = record {
  under : UnderWay l.options (g.R.Source.device l.fn.source) (g.R.Source.device l.source)
      (g.W.Sink.device l.fn.sink) (g.W.Sink.device l.sink) l.reader l.writer;
  ready : l.flush ≡ BeforeReads → IsReady l.reader l.writer;
}

abbrev pub decreases-records : goal.decreases-records
decreases-records g l = left_with (g.R.Source.device l.source) l.reader.position.waiting
