use Rattle.std.proofs.Common.{refl}
use Rattle.msr_tool.proofs.repacking.settings_of.Goals as goal

pub returns-clause-same : goal.returns-clause-same
returns-clause-same c = rw (c.tolerance.ensures.same, c.is_strict.ensures) refl

pub returns-clause-in_range : goal.returns-clause-in_range
returns-clause-in_range c = c.tolerance.ensures.in_range
