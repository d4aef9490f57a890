-- Each word so far holds as many differences as it can.
use Rattle.std.proofs.Common.{◌-◌, ◌≤◌, ℕ}
use Rattle.msr_words.specs.Pairs.{HasWalked}
use Rattle.msr_words.proofs.window.Window.pass_pairs.Given as goal

abbrev pub invariant-loop-on : goal.invariant-loop-on
invariant-loop-on l = record {
  later : l.initial.on.at ≤ l.on.at;
  more : l.initial.on.words ≤ l.on.words;
  few : l.on.words ≤ l.last;
  walked : (start : ℕ) → HasWalked l.samples start l.initial.on → HasWalked l.samples start l.on;
}

abbrev pub decreases-loop-on : goal.decreases-loop-on
decreases-loop-on l = l.last - l.on.words
