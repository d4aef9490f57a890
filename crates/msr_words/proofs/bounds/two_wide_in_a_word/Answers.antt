use Rattle.msr_words.proofs.WordRoom.{wide_law}
use Rattle.msr_words.proofs.bounds.two_wide_in_a_word.Goals as goal

pub returns : goal.returns
returns c = wide_law
