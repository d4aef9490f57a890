use Rattle.std.proofs.Common.{rules}
use Rattle.msr_arguments.proofs.words.listing_in.Goals as goal

pub returns-clause-asked : goal.returns-clause-asked
returns-clause-asked c = search rules
