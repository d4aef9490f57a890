use Rattle.std.proofs.Common.{◌≡◌, take}
use Rattle.msr_devices.specs.Device.{IsCalm}
use Rattle.msr_report.specs.Proper.{records_in}
use Rattle.msr_report.proofs.Written.{IsWrittenReport}
use Rattle.msr_report.proofs.report.Report.write_text.Given as goal

-- the segments so far are written
abbrev pub invariant-loop-line : goal.invariant-loop-line
invariant-loop-line g l = record {
  written : IsWrittenReport (g.W.Sink.device l.fn.sink) (g.W.Sink.device l.sink) l.self
      (take l.line-index l.self.segments.items) l.buffer.bytes.items;
  calm : IsCalm (g.W.Sink.device l.fn.sink) (g.W.Sink.device l.sink);
  records : l.records ≡ records_in (take l.line-index l.self.segments.items);
}
