use Rattle.std.proofs.Common.{rules}
use Rattle.msr_words.proofs.codecs.words_opened.Goals as goal

pub returns-clause-opens : goal.returns-clause-opens
returns-clause-opens c = search rules
