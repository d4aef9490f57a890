use Rattle.msr_walk.proofs.Days.{claims_none, claims_then}
use Rattle.msr_walk.proofs.day.Day.claim.Goals as goal

pub loop-init : goal.loop-init
loop-init g c = claims_none c.args.self.now _

pub loop-preserved : goal.loop-preserved
loop-preserved g c = claims_then c.args.self.now _ _ _ c.loop.invariant c.try_claim.ensures

pub returns-in_err-claim : goal.returns-in_err-claim
returns-in_err-claim g c = claims_then c.args.self.now _ _ _ c.loop.invariant c.try_claim.ensures

pub returns-in-Ours : goal.returns-in-Ours
returns-in-Ours g c = claims_then c.args.self.now _ _ _ c.loop.invariant c.try_claim.ensures
