use Rattle.std.proofs.Common.{rules}
use Rattle.msr_sds.proofs.SdsName.path_text.Goals as goal

pub returns : goal.returns
returns c = search rules
