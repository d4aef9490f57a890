use Rattle.msr_command.proofs.Endings.{closed_still}
use Rattle.msr_command.proofs.tasks.end_closed.Goals as goal

pub returns-in_default : goal.returns-in_default
returns-in_default g c = closed_still (g.F.NamedFiles.went c.args.files.now) c.args.task.now c.in_default.not-Feed
