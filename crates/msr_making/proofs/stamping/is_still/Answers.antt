use Rattle.msr_tree.proofs.Acting.{goes_as}
use Rattle.msr_making.proofs.stamping.is_still.Goals as goal

pub returns-in-Ok-Found : goal.returns-in-Ok-Found
returns-in-Ok-Found g c = goes_as _ _ _ _ (λ p q x. x.changes) c.look_at.ensures

pub returns-in_default : goal.returns-in_default
returns-in_default g c = goes_as _ _ _ _ (λ p q x. x.changes) c.look_at.ensures

pub returns-in_default-2 : goal.returns-in_default-2
returns-in_default-2 g c = goes_as _ _ _ _ (λ p q x. x.changes) c.look_at.ensures
