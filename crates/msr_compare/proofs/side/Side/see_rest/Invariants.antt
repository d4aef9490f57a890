use Rattle.std.proofs.Common.{◌++◌, List}
use Rattle.msr_devices.specs.Device.{Device, IsSteady}
use Rattle.msr_input.specs.Records.{left_with}
use Rattle.msr_input.specs.declared.settings.Settings.{Settings}
use Rattle.msr_compare.specs.Symbols.{Symbol}
use Rattle.msr_compare.specs.Sides.{HasTaken}
use Rattle.msr_compare.proofs.Draining.{SeenDraining}
use Rattle.msr_compare.proofs.side.Side.see_rest.Given as goal

abbrev pub invariant-records : goal.invariant-records
invariant-records g l = record {
  draining : (begun : g.row.O.Denot) (settings : Settings) (start : Device) (done : List Symbol)
      → HasTaken (g.O.Observer.has_seen begun l.fn.observer) settings start (g.R.Source.device l.fn.source) l.fn.self done
      → SeenDraining (g.O.Observer.has_seen begun l.observer) settings start (g.R.Source.device l.source)
      l.self-inside.reader (done ++ l.fn.self.ahead);
  steady : IsSteady (g.R.Source.device l.fn.source) (g.R.Source.device l.source);
}

abbrev pub decreases-records : goal.decreases-records
decreases-records g l = left_with (g.R.Source.device l.source) l.self-inside.reader.position.waiting
