use Rattle.std.proofs.Common.{rules}
use Rattle.msr_report.proofs.lines.kinds_line.Goals as goal

pub returns-in-WithoutInt24 : goal.returns-in-WithoutInt24
returns-in-WithoutInt24 c = search rules
