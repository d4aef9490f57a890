-- In three steps.
use Rattle.msr_steim.proofs.LaneSums.{summed}
use Rattle.msr_steim.proofs.lanes.prefix_sums.Goals as goal

pub returns : goal.returns
returns c = summed c.args.d c.requires.eight c.requires.small
