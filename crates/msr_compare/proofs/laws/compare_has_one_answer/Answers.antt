use Rattle.msr_compare.proofs.OneAnswer.{one_answer}
use Rattle.msr_compare.proofs.laws.compare_has_one_answer.Goals as goal

pub returns : goal.returns
returns c = one_answer
