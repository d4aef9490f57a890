-- What was pushed fits up to here.
use Rattle.std.proofs.Common.{ℕ, ◌≤◌}
use Rattle.msr_words.specs.Segment.{run_points}
use Rattle.msr_words.specs.Fit.{Fits, Records}
use Rattle.msr_packer.proofs.growing.all_taken.Given as goal

abbrev pub invariant-loop-at : goal.invariant-loop-at
invariant-loop-at g l = record {
  kept : (records : Records) (start : ℕ) → start ≤ l.fn.from
      → g.C.Codec.follows records (run_points l.samples start l.fn.from) l.fn.tracker
      → Fits g.C.Codec.kind records.bytes (run_points l.samples start l.fn.from)
      → g.C.Codec.follows records (run_points l.samples start l.at) l.tracker
      × Fits g.C.Codec.kind records.bytes (run_points l.samples start l.at);
}
