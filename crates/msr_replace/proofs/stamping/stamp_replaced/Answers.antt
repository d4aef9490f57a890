use Rattle.msr_exchange.proofs.Stamps.{records_not}
use Rattle.msr_replace.proofs.stamping.stamp_replaced.Goals as goal

pub returns-then-not-may_be_in_place : goal.returns-then-not-may_be_in_place
returns-then-not-may_be_in_place g c = records_not c.args.stamp.now c.args.names.now _
