use Rattle.msr_making.proofs.Sights.{goes_nothing}
use Rattle.msr_making.proofs.clearing.shows_left.Goals as goal

pub returns-then-not-was_left : goal.returns-then-not-was_left
returns-then-not-was_left g c = goes_nothing _
