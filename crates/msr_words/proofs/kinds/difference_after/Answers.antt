use Rattle.std.proofs.Common.{rules}
use Rattle.msr_words.proofs.kinds.difference_after.Goals as goal

pub returns-in-None : goal.returns-in-None
returns-in-None c = search rules
