use Rattle.std.proofs.Common.{refl}
use Rattle.msr_command.proofs.tasks.require_open.Goals as goal

pub returns-in-Err : goal.returns-in-Err
returns-in-Err g c =
    let writes = c.in-Err.ensures.writes in
    (writes.bytes, refl, record { error = c.in-Err.field-0; counts = writes.counts })
