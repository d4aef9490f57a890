use Rattle.msr_segments.proofs.DivisionLaws.{cuts_keep}
use Rattle.msr_segments.proofs.laws.cuts_keep_segments.Goals as goal

pub returns : goal.returns
returns c = cuts_keep
