use Rattle.std.proofs.Common.{◌≡◌, ◌≤◌, List}
use Rattle.msr_rows.specs.declared.row.Record.{Record}
use Rattle.msr_devices.specs.Device.{Device, IsSteady}
use Rattle.msr_segments.specs.declared.follow.Step.{Step}
use Rattle.msr_input.specs.Records.{left_with}
use Rattle.msr_input.specs.Rows.{HasReadRows, ReadsNoRow, row_settings}
use Rattle.msr_input.proofs.row_reader.RowReader.next_outline.Given as goal

abbrev pub invariant-records : goal.invariant-records
invariant-records g l = record {
  read : (start : Device) (records : List Record) (answers : List Step)
      → HasReadRows start (g.R.Source.device l.fn.source) l.fn.self records answers
      → ReadsNoRow start (g.R.Source.device l.source) l.self records answers;
  following : l.self.following ≡ l.fn.self.following;
  settings : row_settings l.self ≡ row_settings l.fn.self;
  left : left_with (g.R.Source.device l.source) l.self.position.waiting ≤ left_with
      (g.R.Source.device l.fn.source) l.fn.self.position.waiting;
  steady : IsSteady (g.R.Source.device l.fn.source) (g.R.Source.device l.source);
}

abbrev pub decreases-records : goal.decreases-records
decreases-records g l = left_with (g.R.Source.device l.source) l.self.position.waiting
