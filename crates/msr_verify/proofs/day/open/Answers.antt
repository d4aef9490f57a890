use Rattle.msr_verify.proofs.OpeningLemmas.{open_failed}
use Rattle.msr_verify.proofs.day.open.Goals as goal

pub returns-in-Err-Failed-clause-goes : goal.returns-in-Err-Failed-clause-goes
returns-in-Err-Failed-clause-goes g c =
    open_failed c.args.path.now c.args.refusal (λ reader. g.T.Reader.Source.device reader) (g.T.Tree.went c.args.tree.now) (g.T.Tree.went c.follow.new.self)
    (rw c.in-Err-Failed.field-0-is at c.in-Err-Failed.ensures.went)
