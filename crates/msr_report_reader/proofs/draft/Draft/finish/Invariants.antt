use Rattle.std.proofs.Common.{List, ℕ, ◌++◌, length}
use Rattle.msr_report_reader.specs.Draft.{HasRead}
use Rattle.msr_report_reader.proofs.Steps.{Left}
use Rattle.msr_report_reader.proofs.draft.Draft.finish.Given as goal

-- the draft follows what was read of the text
abbrev pub invariant-reading : goal.invariant-reading
invariant-reading l = (past : List ℕ) → HasRead l.fn.self past → Left l.self (past ++ l.text) l.rest

abbrev pub decreases-reading : goal.decreases-reading
decreases-reading l = length l.rest
