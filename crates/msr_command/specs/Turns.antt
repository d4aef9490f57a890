-- When channels seem to alternate in what was repacked.
use Rattle.std.specs.Prelude.{◌==◌, ◌*◌, ◌<◌, ◌≤◌, Bool, length, count_by}
use Rattle.msr_report.specs.Proper.{records_in}
use Rattle.msr_report.specs.declared.report.Report.{Report}
use Rattle.msr_report.specs.declared.report.SegmentLine.{SegmentLine}

abbrev pub is_single : SegmentLine → Bool
is_single line = line.records == 1

-- no record was saved, and more than half of the segments stand in one record
pub record AreTurns (report : Report) : Type 0 where
  pub none_saved : report.counts.read ≤ records_in report.segments.items
  pub singles : length report.segments.items < 2 * count_by is_single report.segments.items
