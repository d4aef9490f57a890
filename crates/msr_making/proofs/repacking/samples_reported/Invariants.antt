use Rattle.std.proofs.Common.{◌≡◌, take}
use Rattle.msr_folders.specs.Totals.{saturated}
use Rattle.msr_making.specs.Day.{samples_of_lines}
use Rattle.msr_making.proofs.repacking.samples_reported.Given as goal

-- the samples of the lines so far
abbrev pub invariant-loop-line : goal.invariant-loop-line
invariant-loop-line l = l.samples ≡ saturated (samples_of_lines (take l.line-index l.report.segments.items))
