-- What stands after the segments of a report.
use Rattle.std.specs.Prelude.{◌≡◌, ℕ, ◌<◌, ◌^◌, List, ◌++◌, length}
use Rattle.msr_report.specs.Proper.{records_in}
use Rattle.msr_report.specs.Text.{end_line}
use Rattle.msr_report.specs.declared.report.SegmentLine.{SegmentLine}

-- the last line and then more text
pub record IsLast (segments : List SegmentLine) (text rest : List ℕ) : Type 0 where
  pub fits : records_in segments < 2 ^ 64
  pub is : text ≡ end_line (length segments) (records_in segments) ++ rest
