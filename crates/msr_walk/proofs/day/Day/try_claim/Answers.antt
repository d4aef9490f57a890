use Rattle.msr_walk.proofs.Days.{claims_none}
use Rattle.msr_walk.proofs.day.Day.try_claim.Goals as goal

pub returns-in_err-claim : goal.returns-in_err-claim
returns-in_err-claim g c = claims_none c.args.self.now _

pub returns-in-Ours : goal.returns-in-Ours
returns-in-Ours g c = claims_none c.args.self.now _

pub returns-in-Again : goal.returns-in-Again
returns-in-Again g c = claims_none c.args.self.now _
