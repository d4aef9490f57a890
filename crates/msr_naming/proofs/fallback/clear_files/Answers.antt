use Rattle.std.proofs.Common.{Ok}
use Rattle.msr_naming.proofs.FallingBack.{clear_fall, clear_so, clear_stop}
use Rattle.msr_naming.proofs.fallback.clear_files.Goals as goal

pub returns-in-Ok : goal.returns-in-Ok
returns-in-Ok g c = clear_so c.args.files.now (Ok tt) _ _ c.in-Ok.ensures

pub returns-then-is_unstored : goal.returns-then-is_unstored
returns-then-is_unstored g c = clear_fall c.args.files.now c.perform-then-is_unstored.result _ _ _ (rw (c.is_unstored.ensures c.if-is_unstored.true) at c.in-Err.ensures) c.perform-then-is_unstored.ensures

pub returns-else-is_unstored : goal.returns-else-is_unstored
returns-else-is_unstored g c = clear_stop c.args.files.now c.in-Err.stopped _ _ c.in-Err.ensures
