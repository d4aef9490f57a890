-- The top bits and the fields are added without a carry.
use Rattle.std.proofs.Common.{arith, take}
use Rattle.std.proofs.lemmas.List.{length-take-le}
use Rattle.msr_base.specs.declared.storage.Version.TheVariants.{Two}
use Rattle.msr_filling.proofs.FillFields.{added_word_is, group_bits}
use Rattle.msr_filling.proofs.filling.formed.Goals as goal

pub returns-clause-word : goal.returns-clause-word
returns-clause-word c ds seen longest =
    let ys = take c.args.size ds in
    let long = length-take-le c.args.size ds longest.within in
    let is = longest.group (omega (arith, c.requires.size.0)) in
    let same = c.fields_seen-fields.ensures.same ds seen
    (group_bits Two ys c.args.size c.form_of-form.result.width long c.form_of-form.ensures.form.0 is) in
    added_word_is ys c.args.size c.form_of-form.result.width c.form_of-form.result.top c.fields_seen-fields.result long
    c.form_of-form.ensures.room.0 c.form_of-form.ensures.form.0 is c.form_of-form.ensures.form.2 same
    c.form_of-form.ensures.room.3
