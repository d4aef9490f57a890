-- Whatever the groups of the division that is written are, their words stand in the area so far. In each frame those
-- that no group is left for come after the others.
use Rattle.std.proofs.Common.{◌<◌, ◌≤◌, ◌+◌, ◌-◌, ◌*◌, ◌/◌, ◌^◌, ℤ, List, length, pos, slice_index_or}
use Rattle.msr_words.specs.Canonical.{IsCanonicalDivision}
use Rattle.msr_words.specs.Segment.{differences}
use Rattle.msr_filling.specs.Sizing.{version_of}
use Rattle.msr_words.specs.Window.{IsWindow}
use Rattle.msr_filling.proofs.Fill.{IsFilled, IsFramed}
use Rattle.msr_filling.proofs.frames.fill_frames.Given as goal

abbrev pub invariant-loop-frame : goal.invariant-loop-frame
invariant-loop-frame l = record {
  within : l.at ≤ length l.run;
  window : IsWindow l.run l.at l.window;
  most : l.frame ≤ length l.area / 64;
  later : 0 < l.at → 0 < l.frame;
  few : l.used ≤ 15 * l.frame;
  framed : (gs : List (List ℤ)) → IsCanonicalDivision (version_of l.sizing) gs (differences l.before l.run)
      → IsFramed (version_of l.sizing) gs (differences l.before l.run) (slice_index_or l.run 0 (pos 0))
      (slice_index_or l.run (length l.run - 1) (pos 0)) l.frame l.at l.used l.fn.area l.area;
}

abbrev pub decreases-loop-frame : goal.decreases-loop-frame
decreases-loop-frame l = length l.area / 64 - l.frame

abbrev pub invariant-loop-slot : goal.invariant-loop-slot
invariant-loop-slot l = record {
  within : l.at ≤ length l.run;
  window : IsWindow l.run l.at l.window;
  most : l.slot ≤ 15;
  few : l.used ≤ 15 * l.frame + l.slot;
  small : l.codes < 4 ^ (l.slot + 1);
  high : 2 ≤ 16 * l.frame + l.slot;
  filled : (gs : List (List ℤ)) → IsCanonicalDivision (version_of l.sizing) gs (differences l.before l.run)
      → IsFilled (version_of l.sizing) gs (differences l.before l.run) (slice_index_or l.run 0 (pos 0))
      (slice_index_or l.run (length l.run - 1) (pos 0)) l.frame l.slot l.at l.used l.codes l.fn.area l.area;
}

abbrev pub decreases-loop-slot : goal.decreases-loop-slot
decreases-loop-slot l = 15 - l.slot

abbrev pub invariant-loop-spare : goal.invariant-loop-spare
invariant-loop-spare l = record {
  small : l.codes < 4 ^ (l.spare + 1);
  high : 2 ≤ 16 * l.frame + l.spare;
  filled : (gs : List (List ℤ)) → IsCanonicalDivision (version_of l.sizing) gs (differences l.before l.run)
      → IsFilled (version_of l.sizing) gs (differences l.before l.run) (slice_index_or l.run 0 (pos 0))
      (slice_index_or l.run (length l.run - 1) (pos 0)) l.frame l.spare l.at l.used l.codes l.fn.area l.area;
}
