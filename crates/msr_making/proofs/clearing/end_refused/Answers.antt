use Rattle.std.proofs.Common.{inl, inr, refl, sym, ◌∙◌}
use Rattle.msr_making.proofs.Cleared.{ends_cleared, ends_kept, ends_unheld}
use Rattle.msr_making.proofs.clearing.end_refused.Goals as goal

pub returns-then-is_lost-clause-told : goal.returns-then-is_lost-clause-told
returns-then-is_lost-clause-told g c = inl refl

pub returns-then-is_lost-clause-goes : goal.returns-then-is_lost-clause-goes
returns-then-is_lost-clause-goes g c = ends_unheld c.args.input.now c.args.files.now c.args.asked.now c.args.why _

pub returns-then-stays-clause-told : goal.returns-then-stays-clause-told
returns-then-stays-clause-told g c = inr refl

pub returns-then-stays-clause-goes : goal.returns-then-stays-clause-goes
returns-then-stays-clause-goes g c = ends_kept c.args.input.now c.args.files.now c.args.asked.now c.args.why c.of_swept.result _ _ (sym c.stays.ensures ∙ c.if-stays.true) c.of_swept.ensures c.shows_left-is_shown.ensures

pub returns-clause-told : goal.returns-clause-told
returns-clause-told g c = c.clear_day.ensures.told

pub returns-clause-goes : goal.returns-clause-goes
returns-clause-goes g c = ends_cleared c.args.input.now c.args.files.now c.args.asked.now c.args.why c.clear_day.result _ _
    (λ is. let lost = c.is_lost.ensures is in let not = c.if-is_lost.false in absurd cc) (sym c.stays.ensures ∙ c.if-stays.false) c.clear_day.ensures.goes
