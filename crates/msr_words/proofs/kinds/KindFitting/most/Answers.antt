use Rattle.std.proofs.Common.{rules}
use Rattle.msr_words.proofs.kinds.KindFitting.most.Goals as goal

pub returns : goal.returns
returns c = search rules
