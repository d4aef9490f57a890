use Rattle.std.proofs.Common.{rules}
use Rattle.msr_record.proofs.writing.header_for.Goals as goal

pub returns-clause-header : goal.returns-clause-header
returns-clause-header c = search rules
