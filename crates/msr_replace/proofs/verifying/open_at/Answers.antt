use Rattle.msr_replace.proofs.Reading.{opened_none, opened_some, opened_refused}
use Rattle.msr_replace.proofs.verifying.open_at.Goals as goal

pub returns-in-Ok-clause-went : goal.returns-in-Ok-clause-went
returns-in-Ok-clause-went g c = opened_some c.args.path.now _ c.in-Ok.reader _ _ c.in-Ok.ensures.went

pub returns-in-Err-Failed-clause-went : goal.returns-in-Err-Failed-clause-went
returns-in-Err-Failed-clause-went g c = opened_none c.args.path.now _ c.in-Err-Failed.field-0 _ _ c.in-Err-Failed.field-0-is c.in-Err-Failed.ensures.went

pub returns-in-Err-Memory-clause-went : goal.returns-in-Err-Memory-clause-went
returns-in-Err-Memory-clause-went g c = opened_refused c.args.path.now _ c.in-Err-Memory.field-0 _ _ c.in-Err-Memory.ensures.went
