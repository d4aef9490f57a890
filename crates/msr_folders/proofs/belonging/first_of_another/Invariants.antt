use Rattle.std.proofs.Common.{All, take}
use Rattle.msr_folders.specs.Belonging.{told_segment}
use Rattle.msr_folders.specs.Names.{IsOfChannel}
use Rattle.msr_folders.proofs.belonging.first_of_another.Given as goal

-- the segments so far are of the channel
abbrev pub invariant-loop-line : goal.invariant-loop-line
invariant-loop-line l = All (λ line. IsOfChannel l.name (told_segment line)) (take l.line-index l.lines)
