-- The words that are filled, and whether their groups are of two or more.
use Rattle.std.proofs.Common.{IsTrue, ◌-◌, take}
use Rattle.msr_words.specs.Window.{IsWindow}
use Rattle.msr_words.specs.Bounds.{AreNarrow}
use Rattle.msr_words.proofs.Steim2Runs.{IsWalked}
use Rattle.msr_words.proofs.steim2.steim2_reach.Given as goal

abbrev pub invariant-loop-word : goal.invariant-loop-word
invariant-loop-word l = record {
  walked : IsWalked l.words (l.words - l._word) (take l.latest l.samples) l.start l.at;
  window : IsWindow (take l.latest l.samples) l.at l.window;
  small : IsTrue l.shared → AreNarrow (take l.latest l.samples) l.start l.at;
}
