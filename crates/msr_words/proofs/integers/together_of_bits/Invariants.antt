use Rattle.msr_words.proofs.IntegerBits.{AreTogether}
use Rattle.msr_words.proofs.integers.together_of_bits.Given as goal

abbrev pub invariant-loop-at : goal.invariant-loop-at
invariant-loop-at l = AreTogether l.bits l.run l.at l.sizes
