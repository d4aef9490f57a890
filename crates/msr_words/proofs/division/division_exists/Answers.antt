-- Group by group, the longest with which there are no more.
use Rattle.msr_words.proofs.DivisionsExist.{has_division}
use Rattle.msr_words.proofs.division.division_exists.Goals as goal

pub returns : goal.returns
returns c = λ version words ds can. let h = has_division version words ds can in (h.groups, h.canonical)
