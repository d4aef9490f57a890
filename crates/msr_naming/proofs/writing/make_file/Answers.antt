use Rattle.msr_tree.proofs.Acting.{goes_as}
use Rattle.msr_naming.proofs.Begun.{begun}
use Rattle.msr_naming.proofs.writing.make_file.Goals as goal

pub returns-clause-goes : goal.returns-clause-goes
returns-clause-goes g c = goes_as _ _ _ _ (λ p q begins. begun c.args.path.now g.T.Writer.Sink.device c.make.result p q begins) c.make.ensures.went
