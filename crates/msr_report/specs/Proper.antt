-- Which reports have a text.
use Rattle.std.specs.Prelude.{ℕ, ◌+◌, ◌^◌, ◌<◌, ◌≤◌, List, [], ◌∷◌, All, IsTrue}
use Rattle.msr_time.specs.Instant.{IsInstant}
use Rattle.msr_header.specs.Reading.{is_quality}
use Rattle.msr_report.specs.declared.report.SegmentLine.{SegmentLine}
use Rattle.msr_report.specs.declared.report.Report.{Report}

-- how many records the segments of these lines have in all
abbrev pub records_in : List SegmentLine → ℕ
records_in [] = 0
records_in (line ∷ lines) = line.records + records_in lines

-- The line's quality is D, R, Q or M, and its start is of the supported years.
pub record IsProperLine (line : SegmentLine) : Type 0 where
  pub quality : IsTrue (is_quality line.key.quality)
  pub start : IsInstant line.start

-- The tolerance is in its range, each line is proper, and the number of all records fits 64 bits.
pub record IsProper (report : Report) : Type 0 where
  pub least : 1 ≤ report.tolerance
  pub most : report.tolerance ≤ 1_000_000
  pub lines : All IsProperLine report.segments.items
  pub records : records_in report.segments.items < 2 ^ 64
