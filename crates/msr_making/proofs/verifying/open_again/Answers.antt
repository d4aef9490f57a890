use Rattle.msr_making.proofs.Verified.{opens_at}
use Rattle.msr_making.proofs.verifying.open_again.Goals as goal

pub returns-clause-goes : goal.returns-clause-goes
returns-clause-goes g c = opens_at c.args.path.now (λ reader. g.T.Reader.Source.device reader) c.called.result c.follow-opened.result _ _ c.called.ensures.told c.follow-opened.ensures.went
