use Rattle.std.specs.Prelude.{⊤}
use Rattle.msr_words.proofs.steim1.begins_with_four.Given as goal

abbrev pub invariant-loop-at : goal.invariant-loop-at
invariant-loop-at l = ⊤
