use Rattle.std.proofs.Common.{refl, sym}
use Rattle.msr_replace.specs.Entries.{entry_of}
use Rattle.msr_replace.proofs.LinesTold.{goes_on}
use Rattle.msr_replace.proofs.visitor.failed_at.Goals as goal

pub returns-then-not-has_failed : goal.returns-then-not-has_failed
returns-then-not-has_failed c = λ before all. goes_on before (entry_of c.args.path.now c.args.outcome) all (rw c.has_failed.ensures at c.if-not-has_failed.true)

pub returns : goal.returns
returns c = λ before all. (before, entry_of c.args.path.now c.args.outcome, refl, all, rw c.has_failed.ensures at c.if-not-has_failed.false, sym c.in_ok-at.ensures.ok)
