-- The differences of the group fit its width, and its fields are moved up.
use Rattle.std.proofs.Common.{arith, ◌≤◌, ◌*◌, drop, take}
use Rattle.std.proofs.lemmas.List.{length-drop, length-take-le}
use Rattle.std.proofs.Math.Nat.{mul-le-mul_right}
use Rattle.msr_base.specs.declared.storage.Version.TheVariants.{One}
use Rattle.msr_words.specs.Segment.{differences}
use Rattle.msr_filling.proofs.FillFields.{group_bits, shifted_word_is}
use Rattle.msr_words.proofs.Plain.{length-differences}
use Rattle.msr_filling.proofs.steim1_filling.word_outside.Goals as goal

pub fields_from-fields-requires-clause-fit : goal.fields_from-fields-requires-clause-fit
fields_from-fields-requires-clause-fit c =
    let xs = drop c.args.at (differences c.args.before c.args.run.now) in
    let l = length-drop c.args.at (differences c.args.before c.args.run.now) in
    let m = length-differences c.args.before c.args.run.now in
    let room = c.requires.room in
    group_bits One (take c.args.size xs) c.args.size c.form_of-form.result.width
    (length-take-le c.args.size xs (omega arith)) c.form_of-form.ensures.form.0 c.requires.group

pub overflow_shl-result : goal.overflow_shl-result
overflow_shl-result c =
    let some : 1 * c.form_of-form.result.width ≤ c.args.size * c.form_of-form.result.width =
    mul-le-mul_right c.form_of-form.result.width c.requires.size.0 in
    omega (arith, c.form_of-form.ensures.room.1, c.form_of-form.ensures.room.0)

pub returns-clause-word : goal.returns-clause-word
returns-clause-word c =
    let xs = drop c.args.at (differences c.args.before c.args.run.now) in
    let l = length-drop c.args.at (differences c.args.before c.args.run.now) in
    let m = length-differences c.args.before c.args.run.now in
    let room = c.requires.room in
    shifted_word_is (take c.args.size xs) c.args.size c.form_of-form.result.width c.form_of-form.result.left
    c.fields_from-fields.result (length-take-le c.args.size xs
    (omega arith)) c.form_of-form.ensures.form.0 c.form_of-form.ensures.form.2
    c.fields_from-fields.ensures.same c.form_of-form.ensures.room.0 c.requires.group c.form_of-form.ensures.room.1
