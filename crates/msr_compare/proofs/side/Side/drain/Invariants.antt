use Rattle.std.proofs.Common.{◌≡◌, ◌++◌, false, List}
use Rattle.msr_rows.specs.declared.row.Record.{Record}
use Rattle.msr_devices.specs.Device.{Device}
use Rattle.msr_segments.specs.Spans.{Following}
use Rattle.msr_input.specs.Records.{left_with}
use Rattle.msr_input.specs.declared.settings.Settings.{Settings}
use Rattle.msr_compare.specs.Seen.{nothing_seen}
use Rattle.msr_compare.specs.Symbols.{Symbol}
use Rattle.msr_compare.specs.Sides.{HasTaken}
use Rattle.msr_compare.proofs.Draining.{Draining, IsDraining}
use Rattle.msr_compare.proofs.side.Side.drain.Given as goal

abbrev pub invariant-rows : goal.invariant-rows
invariant-rows g l = record {
  draining : (settings : Settings) (start : Device) (done : List Symbol)
      → HasTaken nothing_seen settings start (g.R.Source.device l.fn.source) l.fn.self done
      → Draining settings start (g.R.Source.device l.source) l.self-inside.reader (done ++ l.fn.self.ahead);
  begun : IsDraining (g.R.Source.device l.source) l.self-inside.reader;
  open_still : l.fn.self.ended ≡ false;
  any : (begun : g.row.O.Denot) (following : Following) (records : List Record)
      → g.O.Observer.has_seen begun l.observer following records;
}

abbrev pub decreases-rows : goal.decreases-rows
decreases-rows g l = left_with (g.R.Source.device l.source) l.self-inside.reader.position.waiting
