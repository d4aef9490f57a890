-- By place, and by length.
use Rattle.msr_plain.proofs.CarriedLemmas.{carries_one, not_short}
use Rattle.msr_plain.proofs.laws.one_outcome.Goals as goal

pub returns : goal.returns
returns c = record { samples = carries_one; not_short = not_short }
