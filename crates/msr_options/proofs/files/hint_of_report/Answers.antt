use Rattle.std.proofs.Common.{rules}
use Rattle.msr_options.proofs.files.hint_of_report.Goals as goal

pub returns : goal.returns
returns g c = search rules
