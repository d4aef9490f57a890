use Rattle.std.proofs.Common.{◌≡◌, ◌≤◌, List}
use Rattle.msr_words.specs.declared.kinds.Run.{Run}
use Rattle.msr_packer.specs.Blocks.{pushed, steps_left}
use Rattle.msr_segments.specs.declared.joiner.Segment.{Segment}
use Rattle.msr_record.specs.Opened.{AppendsSome, CanGoOn, IsOpen}
use Rattle.msr_record.proofs.opened.OpenSegment.encode_runs.Given as goal

-- the records of the runs so far
abbrev pub invariant-loop-number : goal.invariant-loop-number
invariant-loop-number l = record {
  least : 1 ≤ l.number;
  most : l.number ≤ 999_999;
  can : CanGoOn l.whole l.self;
  form : l.self.form ≡ l.initial.self.form;
  count : pushed l.self.packer ≡ pushed l.initial.self.packer;
  key : l.self.key ≡ l.initial.self.key;
  start : l.self.start ≡ l.initial.self.start;
  appends : (segment : Segment) (runs : List Run) → IsOpen l.whole segment runs l.initial.self
      → AppendsSome l.whole segment runs l.self l.initial.number l.initial.out.items l.out.items l.number;
}

abbrev pub decreases-loop-number : goal.decreases-loop-number
decreases-loop-number l = steps_left l.self.packer
