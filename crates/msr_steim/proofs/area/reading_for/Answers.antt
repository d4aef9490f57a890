use Rattle.std.proofs.Common.{rules}
use Rattle.msr_steim.proofs.area.reading_for.Goals as goal

pub returns-then-ones-more_ones-ge14 : goal.returns-then-ones-more_ones-ge14
returns-then-ones-more_ones-ge14 c = search rules

pub returns-then-mixed : goal.returns-then-mixed
returns-then-mixed c = search rules
