use Rattle.std.proofs.Common.{rules}
use Rattle.msr_options.proofs.days.DayOptions.in_length.Goals as goal

pub returns : goal.returns
returns c = search rules
