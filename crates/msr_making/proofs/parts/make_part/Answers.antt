use Rattle.msr_making.proofs.Begun.{goes_begun}
use Rattle.msr_making.proofs.parts.make_part.Goals as goal

pub returns-clause-goes : goal.returns-clause-goes
returns-clause-goes g c = goes_begun c.args.path.now g.T.Writer.Sink.device c.called.result c.make-made.result _ _ c.called.ensures.told c.make-made.ensures.went
