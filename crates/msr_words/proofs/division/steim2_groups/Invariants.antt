-- The groups so far, and the one that is open.
use Rattle.std.proofs.Common.{map, take}
use Rattle.msr_words.proofs.Greedy.{IsGreedy}
use Rattle.msr_words.proofs.division.steim2_groups.Given as goal

abbrev pub invariant-loop-difference : goal.invariant-loop-difference
invariant-loop-difference l = IsGreedy l.fn.words (take l.difference-index l.differences) l.group.items
    (map (λ g. g.items) l.groups.items) l.most
