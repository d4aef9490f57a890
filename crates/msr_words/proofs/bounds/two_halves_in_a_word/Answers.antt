use Rattle.msr_words.proofs.WordRoom.{halves_law}
use Rattle.msr_words.proofs.bounds.two_halves_in_a_word.Goals as goal

pub returns : goal.returns
returns c = halves_law
