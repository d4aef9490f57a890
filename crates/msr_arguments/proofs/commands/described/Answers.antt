use Rattle.std.proofs.lemmas.List.{get_or_default}
use Rattle.msr_arguments.proofs.Adding.{takes_more}
use Rattle.msr_arguments.proofs.commands.described.Goals as goal

pub loop-argument-init : goal.loop-argument-init
loop-argument-init c = c.titled-command.ensures

pub loop-argument-preserved : goal.loop-argument-preserved
loop-argument-preserved c =
    let arguments = c.args.about.arguments.now in
    takes_more c.args.name.now arguments c.loop-argument.argument-index _ c.loop-argument.command c.in_ok-command.command
    c.arg_of.result c.loop-argument-test.true
    (get_or_default arguments c.loop-argument.argument-index _ _ c.loop-argument-test.true) c.loop-argument.invariant
    c.in_ok-command.ensures c.arg_of.ensures.rule c.arg_of.ensures.local
