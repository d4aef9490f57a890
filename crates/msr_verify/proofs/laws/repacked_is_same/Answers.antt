use Rattle.msr_verify.proofs.Repacks.{readable_same, repacked_compares, repacked_same}
use Rattle.msr_verify.proofs.laws.repacked_is_same.Goals as goal

pub returns-clause-has : goal.returns-clause-has
returns-clause-has c = repacked_same c.repacked_has_segments.ensures.within

pub returns-clause-readable : goal.returns-clause-readable
returns-clause-readable c = readable_same c.repacked_has_segments.ensures.readable

pub returns-clause-answers : goal.returns-clause-answers
returns-clause-answers c = repacked_compares (repacked_same c.repacked_has_segments.ensures.within) c.same_is_exact.ensures
