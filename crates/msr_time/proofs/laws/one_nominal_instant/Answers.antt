use Rattle.msr_time.proofs.NominalLemmas.{nominal_one}
use Rattle.msr_time.proofs.laws.one_nominal_instant.Goals as goal

pub returns : goal.returns
returns c = nominal_one
