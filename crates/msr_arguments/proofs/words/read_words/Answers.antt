use Rattle.std.proofs.Common.{arith}
use Rattle.msr_arguments.proofs.Trial.{asks_line}
use Rattle.msr_arguments.proofs.words.read_words.Goals as goal

pub returns-in-Some-clause-trial : goal.returns-in-Some-clause-trial
returns-in-Some-clause-trial c = asks_line c.args.words.now c.in-Some.verb c.read_command.result (omega (arith, c.if-words-lt2.false))
    ((c.named.ensures c.in-Some.verb).0 c.in-Some.is) c.read_command.ensures.trial
