use Rattle.msr_words.proofs.WordRoom.{look_back_law}
use Rattle.msr_words.proofs.bounds.steim1_look_back.Goals as goal

pub returns : goal.returns
returns c = look_back_law
