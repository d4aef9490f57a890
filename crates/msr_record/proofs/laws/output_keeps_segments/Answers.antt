use Rattle.msr_record.proofs.CutRows.{output_keeps}
use Rattle.msr_record.proofs.laws.output_keeps_segments.Goals as goal

pub returns : goal.returns
returns c = output_keeps
