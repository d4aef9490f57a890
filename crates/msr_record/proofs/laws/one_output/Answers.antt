use Rattle.msr_record.proofs.OneOutput.{output_once}
use Rattle.msr_record.proofs.laws.one_output.Goals as goal

pub returns : goal.returns
returns c = output_once
