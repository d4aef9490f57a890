use Rattle.msr_command.proofs.Endings.{replace_ended}
use Rattle.msr_command.proofs.replacing.replace_days.Goals as goal

pub returns : goal.returns
returns g c = replace_ended (g.F.Names.Tree.went c.args.tree.now) (g.F.Names.Tree.went c.replace-replaced.new.tree) c.args.asked.now _ _ _ _ _
    c.replace-replaced.ensures.answer c.replace-replaced.ensures.tree c.replace-replaced.ensures.changes c.done_of_replacing.ensures
