use Rattle.msr_naming.proofs.FallingBack.{gone_named, gone_stop}
use Rattle.msr_naming.proofs.fallback.name_gone.Goals as goal

pub returns-in-Ok : goal.returns-in-Ok
returns-in-Ok g c = gone_named c.args.files.now c.name_records.result _ _ _ c.in-Ok.ensures c.name_records.ensures

pub returns-in-Err : goal.returns-in-Err
returns-in-Err g c = gone_stop c.args.files.now c.in-Err.stopped _ _ c.in-Err.ensures
