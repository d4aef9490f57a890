use Rattle.msr_making.proofs.Sights.{saw, saw_none, saw_nothing, saw_unknown}
use Rattle.msr_making.proofs.looks.look_at.Goals as goal

pub returns-in-Ok-Some : goal.returns-in-Ok-Some
returns-in-Ok-Some g c = saw c.args.path.now c.in-Ok-Some.facts _ _ (rw c.in-Ok-Some.field-0-is at c.in-Ok-Some.ensures)

pub returns-in-Ok-None : goal.returns-in-Ok-None
returns-in-Ok-None g c = saw_nothing c.args.path.now _ _ (rw c.in-Ok-None.field-0-is at c.in-Ok-None.ensures)

pub returns-in-Err-Failed : goal.returns-in-Err-Failed
returns-in-Err-Failed g c = saw_unknown c.args.path.now _ _ (rw c.in-Err-Failed.field-0-is at c.in-Err-Failed.ensures)

pub returns-in-Err-Memory : goal.returns-in-Err-Memory
returns-in-Err-Memory g c = saw_none c.args.path.now _ _ _ (rw c.in-Err-Memory.field-0-is at c.in-Err-Memory.ensures)
