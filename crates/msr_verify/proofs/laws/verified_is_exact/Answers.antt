use Rattle.msr_verify.proofs.ExactLemmas.{exactly}
use Rattle.msr_verify.proofs.laws.verified_is_exact.Goals as goal

pub returns : goal.returns
returns c = exactly
