use Rattle.msr_exchange.proofs.Stamps.{day_stamped, day_unstamped}
use Rattle.msr_exchange.proofs.stamping.stamp_day.Goals as goal

pub returns-in-Some : goal.returns-in-Some
returns-in-Some g c = day_stamped c.args.stamp.now c.args.names.now c.args.of c.in-Some.value c.stamp_of_file.result _ _ _ c.in-Some.is c.stamp_of_file.ensures c.give_stamp.ensures

pub returns-in-None : goal.returns-in-None
returns-in-None g c = day_unstamped c.args.stamp.now c.args.names.now c.args.of c.stamp_of_file.result _ _ _ c.stamp_of_file.ensures c.drop_stamp.ensures
