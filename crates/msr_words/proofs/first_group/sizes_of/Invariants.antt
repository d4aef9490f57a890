-- The sizes so far, and what follows, whatever differences are given.
use Rattle.std.proofs.Common.{◌≡◌, ◌≤◌, ◌+◌, ℤ, List, length, drop}
use Rattle.msr_words.specs.FirstGroup.{AreGiven, AreSizes}
use Rattle.msr_words.specs.Following.{IsFollowing}
use Rattle.msr_words.proofs.first_group.sizes_of.Given as goal

abbrev pub invariant-loop-at : goal.invariant-loop-at
invariant-loop-at g l = record {
  few : l.following.all + l.at ≤ l.count;
  long : length l.sizes.items ≡ l.count;
  following : (ds : List ℤ) → AreGiven (goal.F-post g l.difference) l.count ds → IsFollowing (drop l.at ds) l.following;
  sizes : (ds : List ℤ) → AreGiven (goal.F-post g l.difference) l.count ds → AreSizes ds l.at l.sizes.items;
}
