use Rattle.msr_arguments.proofs.Adding.{verb_added}
use Rattle.msr_arguments.proofs.commands.with_verb.Goals as goal

pub returns : goal.returns
returns c = verb_added _ c.args.verb _ _ _ c.in_ok-command.ensures c.subcommand.ensures
