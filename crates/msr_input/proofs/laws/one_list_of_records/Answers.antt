use Rattle.msr_input.proofs.OneReading.{one_list_of_records}
use Rattle.msr_input.proofs.laws.one_list_of_records.Goals as goal

pub returns : goal.returns
returns c = one_list_of_records
