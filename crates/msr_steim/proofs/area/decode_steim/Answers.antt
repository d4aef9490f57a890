use Rattle.std.proofs.Common.{◌∙◌, rules}
use Rattle.std.proofs.lemmas.List.{take_at}
use Rattle.msr_steim.proofs.area.decode_steim.Goals as goal

pub returns-clause-samples : goal.returns-clause-samples
returns-clause-samples c =
    let size = c.decode_steim_into.auto.out ∙ c.as_mut_slice.ensures.len in
    rw (c.from_vec.ensures, take_at _ _ _ size) (search rules)

pub returns-clause-reverse : goal.returns-clause-reverse
returns-clause-reverse c =
    let size = c.decode_steim_into.auto.out ∙ c.as_mut_slice.ensures.len in
    rw (c.from_vec.ensures, take_at _ _ _ size) (search rules)
