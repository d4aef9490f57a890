use Rattle.std.proofs.Common.{arith}
use Rattle.std.proofs.lemmas.Grind.{common_steps}
use Rattle.msr_header.proofs.reading.is_data_record.Goals as goal

pub returns-in_default-matches : goal.returns-in_default-matches
returns-in_default-matches c = grind (arith, common_steps)

pub returns-else-matches : goal.returns-else-matches
returns-else-matches c = grind (arith, common_steps)
