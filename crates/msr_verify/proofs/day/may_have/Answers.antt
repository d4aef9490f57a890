use Rattle.msr_verify.proofs.OpeningLemmas.{has_failed}
use Rattle.msr_verify.proofs.day.may_have.Goals as goal

pub returns-in-Err-Failed-clause-goes : goal.returns-in-Err-Failed-clause-goes
returns-in-Err-Failed-clause-goes g c =
    has_failed c.args.path.now (g.T.Tree.went c.args.tree.now) (g.T.Tree.went c.has.new.self) (rw c.in-Err-Failed.field-0-is at c.in-Err-Failed.ensures)
