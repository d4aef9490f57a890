use Rattle.std.proofs.Common.{◌≡◌, ◌+◌, []}
use Rattle.msr_devices.specs.Device.{Takes}
use Rattle.msr_devices.proofs.loops.write_some.Given as goal

-- so far every write was interrupted
abbrev pub invariant-loop-tried : goal.invariant-loop-tried
invariant-loop-tried g l = record {
  moved : (g.W.Sink.device l.sink).moved ≡ (g.W.Sink.device l.fn.sink).moved;
  failures : (g.W.Sink.device l.sink).failures ≡ (g.W.Sink.device l.fn.sink).failures;
  interruptions : (g.W.Sink.device l.sink).interruptions ≡ (g.W.Sink.device l.fn.sink).interruptions + l.tried;
  none : Takes (g.W.Sink.device l.fn.sink) (g.W.Sink.device l.sink) [];
}
