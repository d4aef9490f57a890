-- Each word holds its group, or nothing.
use Rattle.msr_steim.proofs.Filled.{filled_agrees, filled_carries, filled_reverse}
use Rattle.msr_steim.proofs.frames.filled_area_carries.Goals as goal

pub returns : goal.returns
returns c = record { samples = filled_carries; reverse = filled_reverse; agrees = filled_agrees }
