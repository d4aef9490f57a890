use Rattle.std.proofs.Common.{◌≡◌, take}
use Rattle.msr_report.specs.Proper.{records_in}
use Rattle.msr_making.proofs.repacking.records_written.Given as goal

-- the records of the lines so far
abbrev pub invariant-loop-line : goal.invariant-loop-line
invariant-loop-line l = l.records ≡ records_in (take l.line-index l.report.segments.items)
