use Rattle.std.proofs.Common.{◌∙◌, inl, inr, sym}
use Rattle.msr_walk.proofs.batch.ends_in.Goals as goal

pub returns-then-not-ends_with : goal.returns-then-not-ends_with
returns-then-not-ends_with c = λ same. inl (sym c.ends_with.ensures.value ∙ c.if-not-ends_with.true)

pub returns : goal.returns
returns c = λ same. inr (sym c.ends_with-2.ensures.value ∙ same)
