use Rattle.std.proofs.Common.{rules}
use Rattle.msr_base.proofs.lengths.Length.data_words.Goals as goal

pub returns-clause-same : goal.returns-clause-same
returns-clause-same c = search rules
