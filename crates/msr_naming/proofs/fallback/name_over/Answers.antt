use Rattle.msr_naming.proofs.FallingBack.{over_named, over_stop, over_unstored}
use Rattle.msr_naming.proofs.fallback.name_over.Goals as goal

pub returns-in-Ok : goal.returns-in-Ok
returns-in-Ok g c = over_named c.args.files.now c.name_gone.result _ _ _ c.in-Ok.ensures c.name_gone.ensures

pub returns-then-is_unstored : goal.returns-then-is_unstored
returns-then-is_unstored g c = over_unstored c.args.files.now c.name_unstored.result _ _ _ (rw (c.is_unstored.ensures c.if-is_unstored.true) at c.in-Err.ensures) c.name_unstored.ensures

pub returns-else-is_unstored : goal.returns-else-is_unstored
returns-else-is_unstored g c = over_stop c.args.files.now c.in-Err.stopped _ _ c.in-Err.ensures
