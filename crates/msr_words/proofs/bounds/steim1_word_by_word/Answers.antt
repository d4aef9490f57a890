use Rattle.msr_words.proofs.Steim1Words.{last_law, stop_law, word_law}
use Rattle.msr_words.proofs.bounds.steim1_word_by_word.Goals as goal

pub returns : goal.returns
returns c = record { word = word_law; last = last_law; stop = stop_law }
