use Rattle.std.proofs.lemmas.Result.{err_from_is_err_and}
use Rattle.msr_making.specs.Places.{paths_at}
use Rattle.msr_making.proofs.Seeking.{asked_two, same_kept, same_nothing, same_none_then, same_stopped_then}
use Rattle.msr_making.proofs.kept.same_day.Goals as goal

pub returns-then-not-asked-clause-goes : goal.returns-then-not-asked-clause-goes
returns-then-not-asked-clause-goes g c = same_nothing (paths_at c.args.places) c.args.asked.now _

pub returns-in_err-look-clause-goes : goal.returns-in_err-look-clause-goes
returns-in_err-look-clause-goes g c =
    let p = err_from_is_err_and c.from_residual-in_err-look.result c.from_residual-in_err-look.ensures.1 in
    rw (p.1, p.2) (same_stopped_then (paths_at c.args.places) c.args.asked.now _ _ _ _ _ _ _ _ c.in_ok-stamp.ensures c.in_err-look.ensures)

pub returns-then-is_uncertain-clause-goes : goal.returns-then-is_uncertain-clause-goes
returns-then-is_uncertain-clause-goes g c = same_none_then (paths_at c.args.places) c.args.asked.now _ _ _ _ _ _ _ c.in_ok-stamp.ensures c.in_ok-look.ensures

pub returns-in_err-is_shared-clause-goes : goal.returns-in_err-is_shared-clause-goes
returns-in_err-is_shared-clause-goes g c =
    let p = err_from_is_err_and c.from_residual-in_err-is_shared.result c.from_residual-in_err-is_shared.ensures.1 in
    rw (p.1, p.2) (same_stopped_then (paths_at c.args.places) c.args.asked.now _ _ _ _ _ _ _ _ (asked_two (paths_at c.args.places) c.args.asked.now _ _ _ _ _ _ _ c.in_ok-stamp.ensures c.in_ok-look.ensures) c.in_err-is_shared.ensures)

pub returns-then-branch-clause-goes : goal.returns-then-branch-clause-goes
returns-then-branch-clause-goes g c = same_none_then (paths_at c.args.places) c.args.asked.now _ _ _ _ _ _ _ (asked_two (paths_at c.args.places) c.args.asked.now _ _ _ _ _ _ _ c.in_ok-stamp.ensures c.in_ok-look.ensures) c.in_ok-is_shared.ensures

pub returns-then-not-is_held-clause-goes : goal.returns-then-not-is_held-clause-goes
returns-then-not-is_held-clause-goes g c = same_none_then (paths_at c.args.places) c.args.asked.now _ _ _ _ _ _ _ (asked_two (paths_at c.args.places) c.args.asked.now _ _ _ _ _ _ _ c.in_ok-stamp.ensures c.in_ok-look.ensures) c.in_ok-is_shared.ensures

pub returns-clause-goes : goal.returns-clause-goes
returns-clause-goes g c =
    same_kept (paths_at c.args.places) c.args.asked.now c.in_ok-look.look c.in_ok-stamp.stamp c.in_ok-is_shared.field-0 c.kept.result _ _ _ _ _ c.if-not-asked.false c.in_ok-stamp.ensures c.in_ok-look.ensures c.in_ok-is_shared.ensures c.kept.ensures.goes
