use Rattle.std.proofs.Common.{◌≡◌, IsTrue, take}
use Rattle.msr_segments.proofs.unequal.are_same.Given as goal

-- unless a difference was met, the samples so far are the same
abbrev pub invariant-places : goal.invariant-places
invariant-places l = IsTrue l.same → take l.at l.ones ≡ take l.at l.others
