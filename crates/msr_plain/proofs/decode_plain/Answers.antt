use Rattle.std.proofs.Common.{◌∙◌, rules}
use Rattle.std.proofs.lemmas.List.{take_at}
use Rattle.msr_plain.proofs.decode_plain.Goals as goal

pub returns-then-area-bytes-clause-short : goal.returns-then-area-bytes-clause-short
returns-then-area-bytes-clause-short c = search rules

pub returns-clause-samples : goal.returns-clause-samples
returns-clause-samples c =
    rw (c.from_vec.ensures, take_at _ _ _ (c.decode_plain_into.auto.out ∙ c.as_mut_slice.ensures.len)) (search rules)

pub returns-clause-count : goal.returns-clause-count
returns-clause-count c =
    rw (c.from_vec.ensures, take_at _ _ _ (c.decode_plain_into.auto.out ∙ c.as_mut_slice.ensures.len)) (search rules)
