use Rattle.std.proofs.Common.{ℕ, ◌<◌, get_or}
use Rattle.msr_report.specs.Proper.{IsProperLine}
use Rattle.msr_report.specs.declared.report.SegmentLine.{SegmentLine}
use Rattle.msr_report_reader.specs.Content.{IsContentLine, content_line}
use Rattle.msr_report_reader.proofs.laws.report_in_range.Given as goal

-- the first `line-index` lines were looked at
abbrev pub invariant-loop-line : goal.invariant-loop-line
invariant-loop-line l = (k : ℕ) → k < l.line-index → (d : SegmentLine)
    → IsProperLine (get_or l.report.segments.items k d) → IsContentLine
    (content_line (get_or l.report.segments.items k d))
