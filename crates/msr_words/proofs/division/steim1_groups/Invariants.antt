-- The groups so far are those of the differences so far.
use Rattle.std.proofs.Common.{◌-◌, ◌≤◌, length, map}
use Rattle.msr_words.proofs.FirstGroups.{AreGroupsBefore}
use Rattle.msr_words.proofs.division.steim1_groups.Given as goal

abbrev pub invariant-loop-at : goal.invariant-loop-at
invariant-loop-at l = record {
  few : length l.groups.items ≤ l.words;
  before : AreGroupsBefore l.differences l.at (map (λ g. g.items) l.groups.items);
}

abbrev pub decreases-loop-at : goal.decreases-loop-at
decreases-loop-at l = length l.differences - l.at
