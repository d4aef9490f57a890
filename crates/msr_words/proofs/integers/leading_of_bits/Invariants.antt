use Rattle.std.proofs.Common.{length, ◌-◌, ◌<◌}
use Rattle.msr_words.proofs.IntegerBits.{AreAll}
use Rattle.msr_words.proofs.integers.leading_of_bits.Given as goal

abbrev pub decreases-loop-at : goal.decreases-loop-at
decreases-loop-at l = length l.run - l.at

abbrev pub invariant-loop-at : goal.invariant-loop-at
invariant-loop-at l = record { all : AreAll l.bits l.run l.at; some : 0 < l.together }
