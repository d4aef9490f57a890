use Rattle.msr_input.proofs.OneReading.{readable_has_no_fault}
use Rattle.msr_input.proofs.laws.readable_has_no_fault.Goals as goal

pub returns : goal.returns
returns c = readable_has_no_fault
