use Rattle.msr_verify.proofs.Repacks.{one_output_of_same, same_of_one_output}
use Rattle.msr_verify.proofs.laws.same_inputs_have_one_output.Goals as goal

pub returns-clause-output : goal.returns-clause-output
returns-clause-output c = one_output_of_same c.one_output.ensures

pub returns-clause-inputs : goal.returns-clause-inputs
returns-clause-inputs c = same_of_one_output c.repacked_is_same.ensures.has
