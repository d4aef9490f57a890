use Rattle.std.proofs.Common.{rules}
use Rattle.msr_options.proofs.errors.write_complaint.Goals as goal

pub returns : goal.returns
returns g c = search rules
