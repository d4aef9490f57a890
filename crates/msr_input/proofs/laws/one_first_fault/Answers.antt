use Rattle.msr_input.proofs.OneReading.{one_first_fault}
use Rattle.msr_input.proofs.laws.one_first_fault.Goals as goal

pub returns : goal.returns
returns c = one_first_fault
