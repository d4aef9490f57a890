use Rattle.std.proofs.Common.{rules}
use Rattle.msr_report_reader.proofs.laws.line_in_range.Goals as goal

pub returns : goal.returns
returns c proper = record {
  key = c.key_in_range.ensures proper.quality;
  start = proper.start;
  samples = search rules;
  records = search rules;
  separators = rw c.deref.ensures.value at c.numbers_in_range.ensures;
}
