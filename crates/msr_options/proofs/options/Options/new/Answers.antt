use Rattle.std.proofs.Common.{rules}
use Rattle.msr_options.proofs.options.Options.new.Goals as goal

pub invariant_of-result : goal.invariant_of-result
invariant_of-result c = search rules

pub returns-clause-some : goal.returns-clause-some
returns-clause-some c = search rules
