use Rattle.msr_record.proofs.Sizes.{output_size}
use Rattle.msr_record.proofs.laws.output_has_size.Goals as goal

pub returns : goal.returns
returns c = output_size
