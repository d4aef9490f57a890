use Rattle.std.proofs.Common.{◌≡◌, ◌++◌, codes, take}
use Rattle.std.specs.String.{string_bytes}
use Rattle.msr_replace.specs.Sums.{count_kept, sums_text}
use Rattle.msr_replace.proofs.tally.Tally.sums.Given as goal

abbrev pub invariant-loop-word : goal.invariant-loop-word
invariant-loop-word l = string_bytes l.line ≡ codes "total" ++ sums_text (count_kept l.self) (take l.word-index l.words)
