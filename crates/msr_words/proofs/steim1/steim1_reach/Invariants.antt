-- The words so far hold as many differences as they can.
use Rattle.std.proofs.Common.{◌≤◌, ◌-◌}
use Rattle.msr_words.specs.Pairs.{HasWalked}
use Rattle.msr_words.specs.Window.{IsWindow}
use Rattle.msr_words.proofs.steim1.steim1_reach.Given as goal

abbrev pub invariant-loop-walk : goal.invariant-loop-walk
invariant-loop-walk l = record {
  few : l.walk.words ≤ l.last;
  window : IsWindow l.samples l.walk.at l.window;
  walked : HasWalked l.samples l.start l.walk;
}

abbrev pub decreases-loop-walk : goal.decreases-loop-walk
decreases-loop-walk l = l.last - l.walk.words
