-- By the rows of the tables.
use Rattle.msr_steim.proofs.InLanes.{are_lanes}
use Rattle.msr_steim.proofs.lanes.lanes_of.Goals as goal

pub returns : goal.returns
returns c = are_lanes c.args.word c.args.key c.ranges.word.fits c.requires.layout
