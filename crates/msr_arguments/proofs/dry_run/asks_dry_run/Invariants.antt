use Rattle.msr_arguments.proofs.Trial.{AsksFrom}
use Rattle.msr_arguments.proofs.dry_run.asks_dry_run.Given as goal

-- what is asked for is asked for by the words that are left
abbrev pub invariant-loop-word : goal.invariant-loop-word
invariant-loop-word l = AsksFrom l.words l.word-index
