use Rattle.msr_report_reader.proofs.Padded.{ReadsDigits}
use Rattle.msr_report_reader.proofs.times.value_of.Given as goal

abbrev pub invariant-loop-digit : goal.invariant-loop-digit
invariant-loop-digit l = ReadsDigits l.digits l.digit-index l.value
