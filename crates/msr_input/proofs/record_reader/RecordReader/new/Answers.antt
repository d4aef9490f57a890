use Rattle.msr_input.proofs.RecordsThatCame.{come_none}
use Rattle.msr_input.proofs.record_reader.RecordReader.new.Goals as goal

pub returns-clause-none : goal.returns-clause-none
returns-clause-none c = rw c.new-2.ensures (λ start. come_none c.args.strict start 0)
