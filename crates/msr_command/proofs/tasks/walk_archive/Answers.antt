use Rattle.std.proofs.lemmas.Result.{err_from_is_err_and}
use Rattle.msr_command.proofs.Endings.{archive_done, archive_stops}
use Rattle.msr_command.proofs.tasks.walk_archive.Goals as goal

pub returns-in_err-walked : goal.returns-in_err-walked
returns-in_err-walked g c =
    let p = err_from_is_err_and c.from_residual.result c.from_residual.ensures.1 in
    λ asked is. rw (p.1, p.2) (archive_stops (g.T.Tree.went c.args.tree.now) (g.T.Tree.went c.walk.new.tree) asked c.args.archive.now _ _ _ is
    c.in_err-walked.ensures.answer
    (record { root = c.in_err-walked.ensures.root; killed = c.in_err-walked.ensures.killed; safe = c.in_err-walked.ensures.safe }))

pub returns : goal.returns
returns g c = λ asked is. archive_done (g.T.Tree.went c.args.tree.now) (g.T.Tree.went c.walk.new.tree) asked c.args.archive.now _ _ _ is
    c.in_ok-walked.ensures.tree
    (record { root = c.in_ok-walked.ensures.root; killed = c.in_ok-walked.ensures.killed; safe = c.in_ok-walked.ensures.safe })
