use Rattle.std.proofs.Common.{All, take}
use Rattle.msr_folders.specs.Belonging.{told_segment}
use Rattle.msr_folders.specs.Times.{HasSampleOn}
use Rattle.msr_folders.proofs.belonging.have_sample_on.Given as goal

-- none of the segments so far has a sample on the day
abbrev pub invariant-loop-line : goal.invariant-loop-line
invariant-loop-line l = All (λ line. HasSampleOn l.name.year l.name.day (told_segment line) → ⊥) (take l.line-index l.lines)
