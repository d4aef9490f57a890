use Rattle.std.proofs.Common.{length}
use Rattle.msr_base.proofs.DigitValues.{ReadsOn}
use Rattle.msr_base.proofs.numbers.number_of.Given as goal

abbrev pub invariant-digits : goal.invariant-digits
invariant-digits l = ReadsOn l.n l.rest l.digits

abbrev pub decreases-digits : goal.decreases-digits
decreases-digits l = length l.rest
