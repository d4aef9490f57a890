use Rattle.msr_record.proofs.OneWritten.{written_once}
use Rattle.msr_record.proofs.record_laws.one_written.Goals as goal

pub returns : goal.returns
returns c = written_once
