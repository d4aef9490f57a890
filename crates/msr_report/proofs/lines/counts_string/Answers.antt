use Rattle.std.proofs.Common.{rules}
use Rattle.msr_report.proofs.lines.counts_string.Goals as goal

pub returns : goal.returns
returns c = search rules
