use Rattle.std.proofs.Common.{rules}
use Rattle.msr_rows.proofs.view.RecordView.samples.Goals as goal

pub returns-in-Some-clause-samples : goal.returns-in-Some-clause-samples
returns-in-Some-clause-samples c = search rules

pub returns-in-Some-clause-agrees : goal.returns-in-Some-clause-agrees
returns-in-Some-clause-agrees c = search rules
