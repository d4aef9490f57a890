-- The numbers in order are carried.
use Rattle.std.proofs.Common.{arith}
use Rattle.msr_plain.proofs.InOrder.{length-numbers_in, numbers_carried}
use Rattle.msr_plain.proofs.borrowed.plain_samples.Goals as goal

pub returns-clause-samples : goal.returns-clause-samples
returns-clause-samples c = numbers_carried c.args.width c.args.order c.args.area.now c.args.count (search arith)

pub returns-clause-count : goal.returns-clause-count
returns-clause-count c = length-numbers_in c.args.width c.args.order c.args.area.now c.args.count
