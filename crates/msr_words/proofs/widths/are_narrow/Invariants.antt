use Rattle.std.specs.Prelude.{◌+◌, ◌<◌}
use Rattle.msr_words.specs.Bounds.{AreNarrow}
use Rattle.msr_words.proofs.widths.are_narrow.Given as goal

abbrev pub invariant-loop-at : goal.invariant-loop-at
invariant-loop-at l = l.sizes < 16384 → AreNarrow l.samples (l.start + 1) l.at
