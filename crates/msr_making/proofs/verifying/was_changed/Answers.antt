use Rattle.msr_making.proofs.Sights.{goes_nothing}
use Rattle.msr_making.proofs.verifying.was_changed.Goals as goal

pub returns-in_default : goal.returns-in_default
returns-in_default g c = goes_nothing _
