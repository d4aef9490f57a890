use Rattle.std.proofs.Common.{◌≡◌, ◌≤◌, false, List}
use Rattle.msr_devices.specs.Device.{Device, IsSteady}
use Rattle.msr_input.specs.Records.{left_with}
use Rattle.msr_input.specs.declared.settings.Settings.{Settings}
use Rattle.msr_compare.specs.Symbols.{Symbol}
use Rattle.msr_compare.specs.Sides.{HasTaken, weight}
use Rattle.msr_compare.proofs.side.Side.read_on.Given as goal

abbrev pub invariant-records : goal.invariant-records
invariant-records g l = record {
  taken : (begun : g.row.O.Denot) (settings : Settings) (start : Device) (done : List Symbol)
      → HasTaken (g.O.Observer.has_seen begun l.fn.observer) settings start (g.R.Source.device l.fn.source) l.fn.self done
      → HasTaken (g.O.Observer.has_seen begun l.observer) settings start (g.R.Source.device l.source) l.self done;
  weight_is : weight (g.R.Source.device l.source) l.self ≤ weight (g.R.Source.device l.fn.source) l.fn.self;
  steady : IsSteady (g.R.Source.device l.fn.source) (g.R.Source.device l.source);
  open_still : l.self.ended ≡ false;
}

abbrev pub decreases-records : goal.decreases-records
decreases-records g l = left_with (g.R.Source.device l.source) l.self.reading.position.waiting
