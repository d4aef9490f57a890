use Rattle.msr_replace.specs.declared.answers.DayRestored.TheVariants.{Changed, Refused}
use Rattle.msr_replace.proofs.Stamps.{restored_not, restored_stamped}
use Rattle.msr_replace.proofs.stamping.stamp_restored.Goals as goal

pub returns-in-Restored : goal.returns-in-Restored
returns-in-Restored g c = rw c.in-Restored.is (restored_stamped c.args.stamp.now c.args.names.now _ _ c.stamp_day.ensures)

pub returns-in-Changed : goal.returns-in-Changed
returns-in-Changed g c = rw c.in-Changed.is (restored_not c.args.stamp.now c.args.names.now Changed _ (λ is. cc))

pub returns-in-Refused : goal.returns-in-Refused
returns-in-Refused g c = rw c.in-Refused.is (restored_not c.args.stamp.now c.args.names.now (Refused c.in-Refused.field-0) _ (λ is. cc))
