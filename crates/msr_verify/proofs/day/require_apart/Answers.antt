use Rattle.msr_verify.proofs.OpeningLemmas.{apart_failed}
use Rattle.msr_verify.proofs.day.require_apart.Goals as goal

pub returns-in-Err-Failed-clause-goes : goal.returns-in-Err-Failed-clause-goes
returns-in-Err-Failed-clause-goes g c =
    apart_failed c.args.file.now c.args.records.now (g.T.Tree.went c.args.tree.now) (g.T.Tree.went c.is_one.new.self)
    (rw c.in-Err-Failed.field-0-is at c.in-Err-Failed.ensures)
