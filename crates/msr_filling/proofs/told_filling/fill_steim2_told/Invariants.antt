-- Whatever the groups of the division that is written are, their words stand in the area so far.
use Rattle.std.proofs.Common.{◌≡◌, ◌<◌, ◌≤◌, ◌+◌, ◌-◌, ◌*◌, ◌^◌, ℤ, List, length, pos, slice_index_or, sum, take}
use Rattle.msr_base.specs.declared.storage.Version.TheVariants.{Two}
use Rattle.msr_words.specs.Canonical.{IsCanonicalDivision}
use Rattle.msr_words.specs.Segment.{differences}
use Rattle.msr_filling.proofs.Fill.{IsFilled, IsFramed}
use Rattle.msr_filling.proofs.told_filling.fill_steim2_told.Given as goal

abbrev pub invariant-loop-frame : goal.invariant-loop-frame
invariant-loop-frame l = record {
  few : l.number ≤ length l.sizes;
  framed : (gs : List (List ℤ)) → IsCanonicalDivision Two gs (differences l.fn.before l.run)
      → IsFramed Two gs (differences l.fn.before l.run) (slice_index_or l.run 0 (pos 0))
      (slice_index_or l.run (length l.run - 1) (pos 0)) l.frame (sum (take l.number l.sizes)) l.number
      l.fn.area l.area;
}

abbrev pub invariant-loop-slot : goal.invariant-loop-slot
invariant-loop-slot l = record {
  most : l.to ≤ 15;
  before_end : l.slot ≤ l.to;
  enough : l.number + (l.to - l.slot) ≤ length l.sizes;
  all : l.to < 15 → l.number + (l.to - l.slot) ≡ length l.sizes;
  small : l.codes < 4 ^ (l.slot + 1);
  high : 2 ≤ 16 * l.frame + l.slot;
  filled : (gs : List (List ℤ)) → IsCanonicalDivision Two gs (differences l.fn.before l.run)
      → IsFilled Two gs (differences l.fn.before l.run) (slice_index_or l.run 0 (pos 0))
      (slice_index_or l.run (length l.run - 1) (pos 0)) l.frame l.slot (sum (take l.number l.sizes)) l.number
      l.codes l.fn.area l.area;
}

abbrev pub invariant-loop-spare : goal.invariant-loop-spare
invariant-loop-spare l = record {
  small : l.codes < 4 ^ (l.spare + 1);
  high : 2 ≤ 16 * l.frame + l.spare;
  filled : (gs : List (List ℤ)) → IsCanonicalDivision Two gs (differences l.fn.before l.run)
      → IsFilled Two gs (differences l.fn.before l.run) (slice_index_or l.run 0 (pos 0))
      (slice_index_or l.run (length l.run - 1) (pos 0)) l.frame l.spare (sum (take l.number l.sizes)) l.number
      l.codes l.fn.area l.area;
}
