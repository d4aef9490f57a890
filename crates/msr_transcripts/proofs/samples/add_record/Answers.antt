-- A record is encoded of what was tested.
use Rattle.std.proofs.Common.{rules, arith}
use Rattle.msr_transcripts.proofs.samples.add_record.Goals as goal

pub overflow_cast-sequence : goal.overflow_cast-sequence
overflow_cast-sequence c = omega (arith, c.if-number-ge999999.false)

pub overflow_add-sequence : goal.overflow_add-sequence
overflow_add-sequence c = omega (arith, c.if-number-ge999999.false)

pub encode_record-done-requires-clause-quality : goal.encode_record-done-requires-clause-quality
encode_record-done-requires-clause-quality c = c.key_at-key.ensures.quality

pub encode_record-done-requires-clause-normal : goal.encode_record-done-requires-clause-normal
encode_record-done-requires-clause-normal c = c.key_at-key.ensures.normal

pub encode_record-done-requires-clause-start : goal.encode_record-done-requires-clause-start
encode_record-done-requires-clause-start c = search (rules, c.if-not-is_instant.ensures)

pub encode_record-done-requires-clause-sequence : goal.encode_record-done-requires-clause-sequence
encode_record-done-requires-clause-sequence c = (omega arith, omega (arith, c.if-number-ge999999.false))

pub encode_record-done-requires-clause-some : goal.encode_record-done-requires-clause-some
encode_record-done-requires-clause-some c = search (rules, c.if-is_empty.ensures)

pub encode_record-done-requires-clause-fits : goal.encode_record-done-requires-clause-fits
encode_record-done-requires-clause-fits c = search (rules, c.if-not-fits.ensures)
