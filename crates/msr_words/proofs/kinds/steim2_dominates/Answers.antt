-- Group by group.
use Rattle.msr_words.proofs.Dominance.{steim2_dominates}
use Rattle.msr_words.proofs.kinds.steim2_dominates.Goals as goal

pub returns : goal.returns
returns c = steim2_dominates
