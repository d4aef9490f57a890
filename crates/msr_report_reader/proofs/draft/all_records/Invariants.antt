use Rattle.std.proofs.Common.{◌≡◌, ◌<◌, ◌^◌, take}
use Rattle.msr_report.specs.Proper.{records_in}
use Rattle.msr_report_reader.proofs.draft.all_records.Given as goal

abbrev pub invariant-loop-segment : goal.invariant-loop-segment
invariant-loop-segment l = (l.records ≡ records_in (take l.segment-index l.segments)) × (l.records < 2 ^ 64)
