use Rattle.std.proofs.Common.{arith}
use Rattle.msr_devices.proofs.write_buffer.WriteBuffer.flush_full.Goals as goal

pub returns-then-len-lt-PIECE-clause-few_wait : goal.returns-then-len-lt-PIECE-clause-few_wait
returns-then-len-lt-PIECE-clause-few_wait g c = omega arith
