use Rattle.msr_arguments.proofs.Refused.{never_found, program_told}
use Rattle.msr_arguments.proofs.words.no_command.Goals as goal

pub unreachable-requires : goal.unreachable-requires
unreachable-requires c =
    never_found _ c.args.words.now c.in_ok-program_line.ensures c.in-Ok.ensures.kinds c.requires

pub returns : goal.returns
returns c =
    program_told _ c.args.words.now c.in-Err.error _ c.in_ok-program_line.ensures c.in-Err.ensures.kinds c.ending_of.ensures
    c.requires
