use Rattle.msr_trial.proofs.Lined.{other_line}
use Rattle.msr_trial.proofs.line.line_of.Goals as goal

pub returns-in_default : goal.returns-in_default
returns-in_default c = λ channel.
    other_line c.args.asked.now c.args.path.now channel c.args.outcome c.told.result c.in_default.not-Done (c.told.ensures channel)
