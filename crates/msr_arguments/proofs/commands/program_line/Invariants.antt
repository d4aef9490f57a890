use Rattle.std.proofs.Common.{◌≡◌}
use Rattle.clap.specs.Words.{app_of}
use Rattle.msr_arguments.proofs.Adding.{program_to}
use Rattle.msr_arguments.proofs.commands.program_line.Given as goal

-- the program has the commands so far
abbrev pub invariant-loop-verb : goal.invariant-loop-verb
invariant-loop-verb l = app_of l.command ≡ program_to l.verb-index
