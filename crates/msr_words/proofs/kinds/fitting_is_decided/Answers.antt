-- Kind by kind.
use Rattle.msr_words.proofs.DivisionsExist.{any_decided, has_first_kind}
use Rattle.msr_words.proofs.kinds.fitting_is_decided.Goals as goal

pub returns-clause-any : goal.returns-clause-any
returns-clause-any c = λ records run. any_decided records run

pub returns-clause-first : goal.returns-clause-first
returns-clause-first c = λ records run any. let h = has_first_kind records run any in (h.kind, h.first)
