use Rattle.std.proofs.Common.{rules}
use Rattle.msr_compare.proofs.meeting.meet.Goals as goal

pub returns-in-Nothing-next : goal.returns-in-Nothing-next
returns-in-Nothing-next c = search rules

pub returns-in-Begins-next-2 : goal.returns-in-Begins-next-2
returns-in-Begins-next-2 c = search rules
