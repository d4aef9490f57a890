use Rattle.msr_words.proofs.IntegerBits.{AreAll}
use Rattle.msr_words.proofs.integers.leading_one_by_one.Given as goal

abbrev pub invariant-loop-at : goal.invariant-loop-at
invariant-loop-at l = AreAll l.bits l.run l.at
