use Rattle.std.proofs.Common.{◌+◌}
use Rattle.msr_devices.specs.Device.{Device, IsSteady}
use Rattle.msr_input.specs.declared.settings.Settings.{Settings}
use Rattle.msr_compare.specs.Sides.{weight}
use Rattle.msr_compare.specs.Meetings.{HaveTaken}
use Rattle.msr_compare.proofs.comparing.agree.Given as goal

abbrev pub invariant-meetings : goal.invariant-meetings
invariant-meetings g l = record {
  taken : (begun : g.row.O.Denot) (settings : Settings) (start_one start_other : Device)
      → HaveTaken (g.O.Observer.has_seen begun l.fn.observer) settings start_one (g.One.Source.device l.fn.one) start_other
      (g.Other.Source.device l.fn.other) l.fn.one_side l.fn.other_side
      → HaveTaken (g.O.Observer.has_seen begun l.observer) settings start_one (g.One.Source.device l.one) start_other
      (g.Other.Source.device l.other) l.one_side l.other_side;
  one_steady : IsSteady (g.One.Source.device l.fn.one) (g.One.Source.device l.one);
  other_steady : IsSteady (g.Other.Source.device l.fn.other) (g.Other.Source.device l.other);
}

abbrev pub decreases-meetings : goal.decreases-meetings
decreases-meetings g l =
    weight (g.One.Source.device l.one) l.one_side + weight (g.Other.Source.device l.other) l.other_side
