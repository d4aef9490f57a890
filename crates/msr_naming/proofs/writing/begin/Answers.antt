use Rattle.msr_naming.proofs.Begun.{begun_again}
use Rattle.msr_naming.proofs.writing.begin.Goals as goal

pub returns-clause-goes : goal.returns-clause-goes
returns-clause-goes g c =
    begun_again c.args.path.now g.T.Writer.Sink.device _ _ _ _ _ _ _ c.make_file.ensures.goes c.remove.ensures c.make_file-2.ensures.goes
