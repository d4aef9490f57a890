-- The differences of the group fit its width, and its fields are moved up.
use Rattle.std.proofs.Common.{arith, ◌≤◌, ◌*◌, take}
use Rattle.std.proofs.lemmas.List.{length-take-le}
use Rattle.std.proofs.Math.Nat.{mul-le-mul_right}
use Rattle.msr_base.specs.declared.storage.Version.TheVariants.{One}
use Rattle.msr_filling.proofs.FillFields.{group_bits, shifted_word_is}
use Rattle.msr_filling.proofs.steim1_filling.formed.Goals as goal

pub overflow_shl-result : goal.overflow_shl-result
overflow_shl-result c =
    let some : 1 * c.form_of-form.result.width ≤ c.args.size * c.form_of-form.result.width =
    mul-le-mul_right c.form_of-form.result.width c.requires.size.0 in
    omega (arith, c.form_of-form.ensures.room.1, c.form_of-form.ensures.room.0)

pub returns-clause-word : goal.returns-clause-word
returns-clause-word c ds seen is =
    let ys = take c.args.size ds in
    let long = length-take-le c.args.size ds (omega (arith, c.requires.size.1, seen.long)) in
    let same = c.fields_seen-fields.ensures.same ds seen
    (group_bits One ys c.args.size c.form_of-form.result.width long c.form_of-form.ensures.form.0 is) in
    shifted_word_is ys c.args.size c.form_of-form.result.width c.form_of-form.result.left c.fields_seen-fields.result long
    c.form_of-form.ensures.form.0 c.form_of-form.ensures.form.2 same c.form_of-form.ensures.room.0 is c.form_of-form.ensures.room.1
