use Rattle.std.proofs.Common.{take}
use Rattle.std.specs.List.{flat_map}
use Rattle.msr_devices.specs.Device.{IsCalm, Takes}
use Rattle.msr_outcomes.specs.Summary.{channel_line, with_bytes}
use Rattle.msr_outcomes.proofs.summary.write_channels.Given as goal

-- the lines of the channels so far are written
abbrev pub invariant-loop-place : goal.invariant-loop-place
invariant-loop-place g l = record {
  prints : Takes (g.O.Sink.device l.fn.out) (g.O.Sink.device l.out) (flat_map (channel_line l.asked)
      (take l.place (with_bytes l.totals l.bytes)));
  calm : IsCalm (g.O.Sink.device l.fn.out) (g.O.Sink.device l.out);
}
