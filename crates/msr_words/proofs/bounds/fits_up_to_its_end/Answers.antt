use Rattle.msr_words.proofs.WordRoom.{end_law}
use Rattle.msr_words.proofs.bounds.fits_up_to_its_end.Goals as goal

pub returns : goal.returns
returns c = end_law
