use Rattle.std.proofs.Common.{rules}
use Rattle.msr_rows.proofs.samples.view_area.Goals as goal

pub returns-in-Some-clause-samples : goal.returns-in-Some-clause-samples
returns-in-Some-clause-samples c = search rules
