use Rattle.msr_words.specs.Fit.{records_of}
use Rattle.msr_check.specs.Next.{SeparatingTo}
use Rattle.msr_check.proofs.separates_in.Given as goal

abbrev pub invariant-loop-i : goal.invariant-loop-i
invariant-loop-i l = SeparatingTo (records_of l.fn.form) l.samples l.separators l.i
