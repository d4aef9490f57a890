use Rattle.std.proofs.lemmas.Result.{err_from_is_err_and}
use Rattle.msr_command.proofs.Endings.{verify_done, verify_stops}
use Rattle.msr_command.proofs.tasks.verify_read.Goals as goal

pub returns-in_err-found : goal.returns-in_err-found
returns-in_err-found g c =
    let p = err_from_is_err_and c.from_residual.result c.from_residual.ensures.1 in
    λ asked is. rw (p.1, p.2) (verify_stops (g.T.Tree.went c.args.tree.now) (g.T.Tree.went c.verify.new.tree) asked c.args.archive.now _ _ _ is
    c.in_err-found.ensures.answer c.in_err-found.ensures.reads)

pub returns : goal.returns
returns g c = λ asked is. verify_done (g.T.Tree.went c.args.tree.now) (g.T.Tree.went c.verify.new.tree) asked c.args.archive.now _ _ _ is
    c.in_ok-found.ensures.tree c.in_ok-found.ensures.reads
