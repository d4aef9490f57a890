use Rattle.std.proofs.Common.{◌∙◌, ap, inl, inr, refl}
use Rattle.msr_walk.proofs.Ours.{wait_none}
use Rattle.msr_walk.proofs.Working.{goes_settles_none}
use Rattle.msr_walk.proofs.batch.Batch.turn_to.Goals as goal

pub returns-then-eq-clause-some : goal.returns-then-eq-clause-some
returns-then-eq-clause-some g c = inl refl

pub returns-then-eq-clause-works : goal.returns-then-eq-clause-works
returns-then-eq-clause-works g c = goes_settles_none c.args.walker.now.archive.now _ _

pub returns-clause-days : goal.returns-clause-days
returns-clause-days g c = wait_none c.args.walker.now.archive.now _ _ _ (ap (λ v. v.items) c.begin.ensures.days ∙ c.settle.ensures.days)

pub returns-clause-settled : goal.returns-clause-settled
returns-clause-settled g c = λ not. ap (λ v. v.items) c.begin.ensures.days ∙ c.settle.ensures.days

pub returns-clause-some : goal.returns-clause-some
returns-clause-some g c = inr (ap (λ v. v.items) c.begin.ensures.days ∙ c.settle.ensures.days)
