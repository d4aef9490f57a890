-- By the word's number.
use Rattle.std.proofs.Common.{rules}
use Rattle.msr_steim.specs.Frames.{frame_word}
use Rattle.msr_steim.proofs.frames.frame_word.Goals as goal

pub returns-then-number-eq0 : goal.returns-then-number-eq0
unfolding frame_word
returns-then-number-eq0 c = search rules

pub returns-then-number-eq1 : goal.returns-then-number-eq1
unfolding frame_word
returns-then-number-eq1 c = search rules

pub returns-then-number-eq2 : goal.returns-then-number-eq2
unfolding frame_word
returns-then-number-eq2 c = search rules

pub returns-else-number-eq2 : goal.returns-else-number-eq2
unfolding frame_word
returns-else-number-eq2 c = search rules
