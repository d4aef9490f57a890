use Rattle.std.proofs.Common.{refl}
use Rattle.msr_making.proofs.Verified.{opens_at}
use Rattle.msr_making.proofs.verifying.open_own_again.Goals as goal

pub returns-in-Found-clause-goes : goal.returns-in-Found-clause-goes
returns-in-Found-clause-goes g c = opens_at c.args.input.now (λ reader. g.T.Reader.Source.device reader) c.open_own.result _ _ _ refl c.open_own.ensures.goes
