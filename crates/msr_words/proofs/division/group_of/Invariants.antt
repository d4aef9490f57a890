-- The differences so far.
use Rattle.std.proofs.Common.{◌≡◌, take}
use Rattle.msr_words.proofs.division.group_of.Given as goal

abbrev pub invariant-loop-difference : goal.invariant-loop-difference
invariant-loop-difference l = l.group.items ≡ take l.difference-index l.differences
