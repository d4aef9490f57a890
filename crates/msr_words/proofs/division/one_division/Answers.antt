-- Group by group.
use Rattle.msr_words.proofs.WrittenDivision.{one_chosen}
use Rattle.msr_words.proofs.division.one_division.Goals as goal

pub returns : goal.returns
returns c = λ version groups others ds. one_chosen version groups others ds
