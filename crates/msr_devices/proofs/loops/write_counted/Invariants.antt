use Rattle.std.proofs.Common.{◌≡◌, ◌+◌, ◌-◌, ◌<◌, ◌≤◌, ◌^◌, length, take}
use Rattle.msr_devices.specs.Device.{Takes, IsCalm}
use Rattle.msr_devices.proofs.loops.write_counted.Given as goal

abbrev pub invariant-loop-written : goal.invariant-loop-written
invariant-loop-written g l = record {
  within : l.written ≤ length l.buf;
  calm : IsCalm (g.W.Sink.device l.fn.sink) (g.W.Sink.device l.sink);
  bytes : Takes (g.W.Sink.device l.fn.sink) (g.W.Sink.device l.sink) (take l.written l.buf);
  moved : (g.W.Sink.device l.sink).moved ≡ (g.W.Sink.device l.fn.sink).moved + l.written;
  short : 0 < l.written → (g.W.Sink.device l.sink).moved < 2 ^ 64;
}

abbrev pub decreases-loop-written : goal.decreases-loop-written
decreases-loop-written g l = length l.initial.buf - l.written
