use Rattle.std.proofs.Common.{◌≡◌, ◌+◌, []}
use Rattle.msr_devices.specs.Device.{Gives}
use Rattle.msr_devices.proofs.loops.read_some.Given as goal

-- so far every read was interrupted
abbrev pub invariant-loop-tried : goal.invariant-loop-tried
invariant-loop-tried g l = record {
  moved : (g.R.Source.device l.source).moved ≡ (g.R.Source.device l.fn.source).moved;
  failures : (g.R.Source.device l.source).failures ≡ (g.R.Source.device l.fn.source).failures;
  interruptions : (g.R.Source.device l.source).interruptions ≡ (g.R.Source.device l.fn.source).interruptions + l.tried;
  none : Gives (g.R.Source.device l.fn.source) (g.R.Source.device l.source) [];
}
