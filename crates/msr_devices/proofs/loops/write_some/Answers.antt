use Rattle.std.proofs.Common.{rules}
use Rattle.msr_devices.proofs.loops.write_some.Goals as goal

pub returns-in-Ok-eq0-clause-some : goal.returns-in-Ok-eq0-clause-some
returns-in-Ok-eq0-clause-some g c = search rules

pub returns-in-Ok-eq0-clause-moves : goal.returns-in-Ok-eq0-clause-moves
returns-in-Ok-eq0-clause-moves g c = search rules
