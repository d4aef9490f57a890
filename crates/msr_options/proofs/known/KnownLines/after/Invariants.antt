use Rattle.std.proofs.Common.{◌≡◌, drop}
use Rattle.msr_options.specs.Known.{text_after}
use Rattle.msr_options.proofs.known.KnownLines.after.Given as goal

-- none of the lines so far has it
abbrev pub invariant-loop-place : goal.invariant-loop-place
invariant-loop-place l = text_after l.beginning l.self ≡ text_after l.beginning (drop l.place l.self)
