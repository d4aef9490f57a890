use Rattle.std.proofs.Common.{◌≡◌, take}
use Rattle.msr_segments.proofs.unequal.first_unequal.Given as goal

-- the samples so far are the same
abbrev pub invariant-samples : goal.invariant-samples
invariant-samples l = take l.at l.ones ≡ take l.at l.others
