-- Segment by segment, run by run.
use Rattle.msr_record.proofs.Existing.{has_output, prefix_of_output, written_longer}
use Rattle.msr_record.proofs.laws.segments_have_output.Goals as goal

pub returns : goal.returns
returns c = record {
  whole = λ form segments writable. let o = has_output form segments writable in
      (o.packed, o.rows, o.bytes, o.same, o.output);
  prefix = prefix_of_output;
  stay = written_longer;
}
