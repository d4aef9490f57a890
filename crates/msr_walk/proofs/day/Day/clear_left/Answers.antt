use Rattle.msr_walk.proofs.Days.{claims_none, claims_swept}
use Rattle.msr_walk.proofs.day.Day.clear_left.Goals as goal

pub returns-in_default : goal.returns-in_default
returns-in_default g c = claims_none c.args.self.now _

pub returns-in_default-files : goal.returns-in_default-files
returns-in_default-files g c = claims_none c.args.self.now _

pub returns-then-not-sweep : goal.returns-then-not-sweep
returns-then-not-sweep g c = claims_swept c.args.self.now c.in-Some.number _ _ _ c.in-Ok.ensures c.sweep.ensures

pub returns : goal.returns
returns g c = claims_swept c.args.self.now c.in-Some.number _ _ _ c.in-Ok.ensures c.sweep.ensures
