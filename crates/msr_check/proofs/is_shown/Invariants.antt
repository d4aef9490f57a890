use Rattle.msr_words.specs.Fit.{records_of}
use Rattle.msr_check.proofs.Shown.{ShownTo}
use Rattle.msr_check.proofs.is_shown.Given as goal

abbrev pub invariant-loop-i : goal.invariant-loop-i
invariant-loop-i l = ShownTo (records_of l.fn.form) l.samples l.runs l.separators l.i l.at l.last
