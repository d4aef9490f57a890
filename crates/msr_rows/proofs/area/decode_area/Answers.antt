use Rattle.std.proofs.Common.{◌∙◌, rules}
use Rattle.std.proofs.lemmas.List.{take_at}
use Rattle.msr_rows.proofs.area.decode_area.Goals as goal

pub returns-in-Ok-decode_plain_into-clause-samples : goal.returns-in-Ok-decode_plain_into-clause-samples
returns-in-Ok-decode_plain_into-clause-samples c =
    rw (c.from_vec.ensures, take_at _ _ _ (c.decode_plain_into.auto.out ∙ c.as_mut_slice-out.ensures.len)) (search rules)

pub returns-in-Ok-decode_plain_into-clause-count : goal.returns-in-Ok-decode_plain_into-clause-count
returns-in-Ok-decode_plain_into-clause-count c =
    rw (c.from_vec.ensures, take_at _ _ _ (c.decode_plain_into.auto.out ∙ c.as_mut_slice-out.ensures.len)) (search rules)

pub returns-in-Ok-decode_steim_into-clause-samples : goal.returns-in-Ok-decode_steim_into-clause-samples
returns-in-Ok-decode_steim_into-clause-samples c =
    rw (c.from_vec-in-Ok-decode_steim_into.ensures, take_at _ _ _ (c.decode_steim_into.auto.out ∙ c.as_mut_slice-out.ensures.len)) (search rules)

pub returns-in-Ok-decode_steim_into-clause-count : goal.returns-in-Ok-decode_steim_into-clause-count
returns-in-Ok-decode_steim_into-clause-count c =
    rw (c.from_vec-in-Ok-decode_steim_into.ensures, take_at _ _ _ (c.decode_steim_into.auto.out ∙ c.as_mut_slice-out.ensures.len)) (search rules)

pub returns-in-Ok-decode_steim_into-clause-reverse : goal.returns-in-Ok-decode_steim_into-clause-reverse
returns-in-Ok-decode_steim_into-clause-reverse c =
    rw (c.from_vec-in-Ok-decode_steim_into.ensures, take_at _ _ _ (c.decode_steim_into.auto.out ∙ c.as_mut_slice-out.ensures.len)) (search rules)
