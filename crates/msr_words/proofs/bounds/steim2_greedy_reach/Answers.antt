use Rattle.msr_words.proofs.GreedyReach.{greedy_law}
use Rattle.msr_words.proofs.bounds.steim2_greedy_reach.Goals as goal

pub returns : goal.returns
returns c = greedy_law
