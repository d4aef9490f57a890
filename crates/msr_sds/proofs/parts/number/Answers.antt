use Rattle.std.proofs.Common.{rules}
use Rattle.msr_sds.proofs.NumberLemmas.{digits_are_read}
use Rattle.msr_sds.proofs.parts.number.Goals as goal

pub unwrap-requires : goal.unwrap-requires
unwrap-requires c =
    let asked = c.requires in
    let read =
    digits_are_read c.args.digits.now c.parse.result asked.some asked.few asked.digits
    c.parse.ensures.value.0 in
    rw read (search rules)

pub returns : goal.returns
returns c =
    let asked = c.requires in
    let read =
    digits_are_read c.args.digits.now c.parse.result asked.some asked.few asked.digits
    c.parse.ensures.value.0 in
    cc
