use Rattle.std.proofs.Common.{◌+◌, subst}
use Rattle.std.proofs.lemmas.List.{drop-drop}
use Rattle.msr_words.specs.Bounds.{BeginsWithFour}
use Rattle.msr_words.specs.Segment.{differences}
use Rattle.msr_filling.proofs.frames.next_word.Goals as goal

pub returns-in-Ahead-clause-untold : goal.returns-in-Ahead-clause-untold
returns-in-Ahead-clause-untold c none = record {
  ahead = c.in-Ahead.is;
  place = c.args.at + 1;
  four = subst BeginsWithFour (drop-drop 1 c.args.at (differences c.args.before c.args.run.now))
      (c.steim1_word_ahead.ensures.none none);
}
