use Rattle.msr_naming.proofs.FallingBack.{records_fall, records_last, records_stop}
use Rattle.msr_naming.proofs.fallback.name_records.Goals as goal

pub returns-in-Ok : goal.returns-in-Ok
returns-in-Ok g c = records_last c.args.files.now c.perform-in-Ok.result _ _ _ c.in-Ok.ensures c.perform-in-Ok.ensures

pub returns-then-is_unstored : goal.returns-then-is_unstored
returns-then-is_unstored g c = records_fall c.args.files.now c.perform-then-is_unstored.result _ _ _ (rw (c.is_unstored.ensures c.if-is_unstored.true) at c.in-Err.ensures) c.perform-then-is_unstored.ensures

pub returns-else-is_unstored : goal.returns-else-is_unstored
returns-else-is_unstored g c = records_stop c.args.files.now c.in-Err.stopped _ _ c.in-Err.ensures
