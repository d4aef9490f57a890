use Rattle.std.proofs.Common.{rules}
use Rattle.msr_words.proofs.division.groups.Goals as goal

pub returns-in-One-clause-counted : goal.returns-in-One-clause-counted
returns-in-One-clause-counted c = search rules

pub returns-in-Two-clause-counted : goal.returns-in-Two-clause-counted
returns-in-Two-clause-counted c = search rules
