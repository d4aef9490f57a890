use Rattle.std.proofs.Common.{take}
use Rattle.std.specs.Prelude.{reverse}
use Rattle.msr_base.specs.declared.storage.Version.TheVariants.{One}
use Rattle.msr_words.specs.Segment.{differences}
use Rattle.msr_words.specs.Division.{CanDivide}
use Rattle.msr_words.specs.AreCounts.{AreCounts}
use Rattle.msr_words.proofs.kinds.fits_steim1.Given as goal

abbrev pub invariant-loop-at : goal.invariant-loop-at
invariant-loop-at l = record {
  counted : AreCounts l.fn.words (reverse (take l.at (differences l.before l.run))) l.counts;
  so_far : CanDivide One l.fn.words (take l.at (differences l.before l.run));
}
