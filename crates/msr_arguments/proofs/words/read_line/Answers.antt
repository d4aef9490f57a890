use Rattle.msr_arguments.proofs.Asked.{command_told}
use Rattle.msr_arguments.proofs.Parsed.{has_all}
use Rattle.msr_arguments.proofs.words.read_line.Goals as goal

pub returns-in-Ok-clause-found : goal.returns-in-Ok-clause-found
returns-in-Ok-clause-found c =
    has_all c.args.verb c.in_ok-command_line.field-0 _ c.in_ok-command_line.ensures c.in-Ok.ensures.parsed

pub returns-in-Err-clause-told : goal.returns-in-Err-clause-told
returns-in-Err-clause-told c =
    command_told c.args.verb _ c.args.words.now c.in-Err.error _ c.in_ok-command_line.ensures c.in-Err.ensures.kinds
    c.ending_of.ensures
