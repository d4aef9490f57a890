use Rattle.std.proofs.Common.{◌≡◌, map, take}
use Rattle.clap.specs.Words.{app_of}
use Rattle.msr_arguments.specs.Rules.{app_with, rule_for}
use Rattle.msr_arguments.proofs.commands.described.Given as goal

-- the command takes the arguments so far
abbrev pub invariant-loop-argument : goal.invariant-loop-argument
invariant-loop-argument l =
    app_of l.command ≡ app_with l.fn.name (map rule_for (take l.argument-index l.about.arguments.now))
