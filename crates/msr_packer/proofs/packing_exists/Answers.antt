-- Step by step from the first frontier.
use Rattle.msr_packer.proofs.PackingsExist.{has_packing}
use Rattle.msr_packer.proofs.packing_exists.Goals as goal

pub returns : goal.returns
returns c = λ records samples enough. let p = has_packing records samples enough in (p.others, p.places, p.canonical)
