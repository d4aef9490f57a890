use Rattle.std.proofs.Common.{length}
use denote.Shadow.{shadow}
use denote.Text.{Utf8}
use Rattle.msr_system.proofs.making.store_all.Given as goal

abbrev pub decreases-loop-at : goal.decreases-loop-at
decreases-loop-at g l = length l.at

abbrev pub invariant-loop-at : goal.invariant-loop-at
invariant-loop-at g l = shadow (Utf8 l.at)
