use Rattle.msr_tree.proofs.Acting.{goes_as}
use Rattle.msr_making.proofs.clearing.is_seen.Goals as goal

pub returns-in-Ok : goal.returns-in-Ok
returns-in-Ok g c = goes_as _ _ _ _ (λ p q x. x.changes) c.look_at_day.ensures

pub returns-in-Err : goal.returns-in-Err
returns-in-Err g c = goes_as _ _ _ _ (λ p q x. x.changes) c.look_at_day.ensures
