use Rattle.std.proofs.Common.{rules}
use Rattle.msr_words.proofs.kinds.room_of.Goals as goal

pub returns-in-Integers : goal.returns-in-Integers
returns-in-Integers c = search rules
