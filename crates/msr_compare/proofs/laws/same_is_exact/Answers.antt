use Rattle.msr_compare.proofs.SameInputs.{exact}
use Rattle.msr_compare.proofs.laws.same_is_exact.Goals as goal

pub returns : goal.returns
returns c = exact
