-- By its day and the time of that day.
use Rattle.msr_time.proofs.Existing.{has_split}
use Rattle.msr_time.proofs.laws.time_exists.Goals as goal

pub returns : goal.returns
returns c = λ t h. let s = has_split t h in (s.time, s.micros, s.split)
