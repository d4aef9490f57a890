use Rattle.msr_exchange.proofs.Stamps.{records_stamped, records_there}
use Rattle.msr_exchange.proofs.stamping.stamp_records.Goals as goal

pub returns-then-not-are_gone : goal.returns-then-not-are_gone
returns-then-not-are_gone g c = records_there c.args.stamp.now c.args.names.now c.are_gone.result _ _ c.are_gone.ensures

pub returns : goal.returns
returns g c = records_stamped c.args.stamp.now c.args.names.now c.are_gone.result _ _ _ c.if-not-are_gone.false c.are_gone.ensures c.stamp_day.ensures
