use Rattle.std.proofs.Common.{sym}
use Rattle.msr_making.proofs.verifying.open_own.Goals as goal

pub returns-clause-goes : goal.returns-clause-goes
returns-clause-goes g c = rw (sym c.called.ensures.told) at c.open_found-opened.ensures.went
