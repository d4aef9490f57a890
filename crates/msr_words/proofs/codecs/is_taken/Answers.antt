use Rattle.std.proofs.Common.{rules}
use Rattle.msr_words.proofs.codecs.is_taken.Goals as goal

pub returns-then-left-gt0 : goal.returns-then-left-gt0
returns-then-left-gt0 c = search rules
