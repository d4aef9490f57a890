use Rattle.msr_arguments.proofs.Apart.{ApartBefore}
use Rattle.msr_arguments.proofs.words.check_places.Given as goal

-- no two of the folders so far overlap
abbrev pub invariant-loop-place : goal.invariant-loop-place
invariant-loop-place l = ApartBefore (λ folder. folder.now) l.below l.place
