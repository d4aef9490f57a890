use Rattle.std.proofs.lemmas.Result.{err_from_is_err_and}
use Rattle.msr_verify.specs.Opening.{places_at}
use Rattle.msr_verify.proofs.OpeningLemmas.{alone_later, judged_later, may_have_none, report_missing}
use Rattle.msr_verify.proofs.day.judge_at.Goals as goal

pub returns-in_err-may_have-clause-goes : goal.returns-in_err-may_have-clause-goes
returns-in_err-may_have-clause-goes g c =
    let p = err_from_is_err_and c.from_residual.result c.from_residual.ensures.1 in
    rw (p.1, p.2) (may_have_none (places_at c.args.places) _ _ _ _ c.in_err-may_have.ensures.goes)

pub returns-then-not-branch-clause-goes : goal.returns-then-not-branch-clause-goes
returns-then-not-branch-clause-goes g c = report_missing (places_at c.args.places) _ _ (rw c.if-not-branch.true at c.in_ok-may_have.ensures.goes)

pub returns-in_err-may_have-2-clause-goes : goal.returns-in_err-may_have-2-clause-goes
returns-in_err-may_have-2-clause-goes g c =
    let p = err_from_is_err_and c.from_residual-in_err-may_have-2.result c.from_residual-in_err-may_have-2.ensures.1 in
    rw (p.1, p.2) (judged_later (places_at c.args.places) _ _ _ _ _ (rw c.if-not-branch.false at c.in_ok-may_have.ensures.goes)
    (may_have_none (places_at c.args.places) _ _ _ _ c.in_err-may_have-2.ensures.goes))

pub returns-then-not-branch-2-clause-goes : goal.returns-then-not-branch-2-clause-goes
returns-then-not-branch-2-clause-goes g c =
    judged_later (places_at c.args.places) _ _ _ _ _ (rw c.if-not-branch.false at c.in_ok-may_have.ensures.goes)
    (alone_later (places_at c.args.places) _ _ _ _ (rw c.if-not-branch-2.true at c.in_ok-may_have-2.ensures.goes) c.judge_alone.ensures.goes)

pub returns-clause-goes : goal.returns-clause-goes
returns-clause-goes g c =
    judged_later (places_at c.args.places) _ _ _ _ _ (rw c.if-not-branch.false at c.in_ok-may_have.ensures.goes)
    (judged_later (places_at c.args.places) _ _ _ _ _ (rw c.if-not-branch-2.false at c.in_ok-may_have-2.ensures.goes) c.judge_files.ensures.goes)
