use Rattle.std.proofs.Common.{rules}
use Rattle.msr_words.proofs.kinds.first_kind.Goals as goal

pub returns-else-run_fits-4 : goal.returns-else-run_fits-4
returns-else-run_fits-4 c = search rules
