use Rattle.std.proofs.Common.{rules}
use Rattle.msr_plain.proofs.write_number.Goals as goal

pub returns-in-Four : goal.returns-in-Four
returns-in-Four c = search rules
