-- The groups that are told, their sizes and words, and whether they are of two differences or more.
use Rattle.std.proofs.Common.{IsTrue, None, ◌-◌, drop, take}
use Rattle.msr_words.specs.Window.{IsWindow}
use Rattle.msr_words.specs.Bounds.{AreNarrow}
use Rattle.msr_words.specs.Segment.{differences}
use Rattle.msr_words.proofs.Steim2Runs.{IsWalked}
use Rattle.msr_filling.proofs.SizesAhead.{AreTold}
use Rattle.msr_filling.proofs.GroupsAhead.{AreWritten}
use Rattle.msr_filling.proofs.words_ahead.walk_with_words.Given as goal

abbrev pub invariant-loop-group : goal.invariant-loop-group
invariant-loop-group l = record {
  walked : IsWalked l.number (l.number - l.group) (take l.latest l.samples) l.start l.at;
  window : IsWindow (take l.latest l.samples) l.at l.window;
  told : AreTold (drop l.start (differences None (take l.latest l.samples))) (l.at - l.start) l.group l.sizes;
  written : AreWritten (drop l.start (differences None (take l.latest l.samples))) l.group l.sizes l.words;
  small : IsTrue l.shared → AreNarrow (take l.latest l.samples) l.start l.at;
}
