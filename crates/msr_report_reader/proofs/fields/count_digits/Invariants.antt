use Rattle.std.proofs.Common.{◌-◌, length}
use Rattle.msr_report_reader.proofs.Digits.{CountsOn}
use Rattle.msr_report_reader.proofs.fields.count_digits.Given as goal

abbrev pub invariant-loop-count : goal.invariant-loop-count
invariant-loop-count l = CountsOn l.count l.text

abbrev pub decreases-loop-count : goal.decreases-loop-count
decreases-loop-count l = length l.text - l.count
