use Rattle.std.proofs.Common.{rules}
use Rattle.msr_rows.proofs.reading.correction_micros.Goals as goal

pub returns-then-is_pending : goal.returns-then-is_pending
returns-then-is_pending c = search rules
