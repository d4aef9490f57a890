use Rattle.std.proofs.Common.{rules}
use Rattle.msr_sds.proofs.parts.Parts.have_date.Goals as goal

pub returns : goal.returns
returns c = search rules
