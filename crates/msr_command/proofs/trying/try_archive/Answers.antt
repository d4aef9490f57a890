use Rattle.std.proofs.lemmas.Result.{err_from_is_err_and}
use Rattle.msr_command.proofs.Endings.{trial_done, trial_stops}
use Rattle.msr_command.proofs.trying.try_archive.Goals as goal

pub returns-in_err-tried : goal.returns-in_err-tried
returns-in_err-tried g c =
    let p = err_from_is_err_and c.from_residual.result c.from_residual.ensures.1 in
    rw (p.1, p.2) (trial_stops (g.T.Tree.went c.args.tree.now) (g.T.Tree.went c.trial.new.tree) c.args.asked.now _ _ _
    c.in_err-tried.ensures.answer c.in_err-tried.ensures.reads)

pub returns : goal.returns
returns g c = rw (c.of_walk.ensures, c.is_empty.ensures) (trial_done (g.T.Tree.went c.args.tree.now) (g.T.Tree.went c.trial.new.tree) c.args.asked.now _ _ _
    c.in_ok-tried.ensures.tree c.in_ok-tried.ensures.reads)
