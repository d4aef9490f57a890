use Rattle.msr_time.proofs.TimeLemmas.{instant_from_bits}
use Rattle.msr_time.proofs.btime.BTime.instant.Goals as goal

pub overflow_add-result : goal.overflow_add-result
overflow_add-result c =
    (instant_from_bits c.args.self.now _ _ c.requires c.midnight.ensures c.micros_of_day.ensures).0

pub returns : goal.returns
returns c = (instant_from_bits c.args.self.now _ _ c.requires c.midnight.ensures c.micros_of_day.ensures).1
