use Rattle.std.proofs.Common.{length}
use Rattle.msr_report_reader.specs.Draft.{AreMore}
use Rattle.msr_report_reader.proofs.draft.more_separators.Given as goal

-- the separators so far
abbrev pub invariant-separators : goal.invariant-separators
invariant-separators l = AreMore l.fn.numbers.items l.ended l.text l.numbers.items l.last l.rest

abbrev pub decreases-separators : goal.decreases-separators
decreases-separators l = length l.rest
