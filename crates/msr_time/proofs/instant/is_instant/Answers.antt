use Rattle.std.proofs.Common.{rules}
use Rattle.msr_time.proofs.instant.is_instant.Goals as goal

pub returns-then-t-ge-FIRST_INSTANT : goal.returns-then-t-ge-FIRST_INSTANT
returns-then-t-ge-FIRST_INSTANT c = search rules
