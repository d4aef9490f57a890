use Rattle.std.proofs.Common.{rules}
use Rattle.msr_plain.proofs.read_number.Goals as goal

pub returns-in-Three-Big : goal.returns-in-Three-Big
returns-in-Three-Big c = search rules
