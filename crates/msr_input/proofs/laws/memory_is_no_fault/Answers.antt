use Rattle.msr_input.proofs.OneReading.{memory_is_no_fault}
use Rattle.msr_input.proofs.laws.memory_is_no_fault.Goals as goal

pub returns : goal.returns
returns c = memory_is_no_fault
