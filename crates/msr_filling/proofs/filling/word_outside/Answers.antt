use Rattle.std.proofs.Common.{arith}
use Rattle.std.proofs.lemmas.List.{length-drop}
use Rattle.msr_words.specs.Segment.{differences}
use Rattle.msr_words.proofs.Plain.{length-differences}
use Rattle.msr_filling.proofs.filling.word_outside.Goals as goal

pub fields_from-fields-requires-clause-room : goal.fields_from-fields-requires-clause-room
fields_from-fields-requires-clause-room c =
    let long = length-differences c.args.before c.args.run.now in
    let l = length-drop c.args.at (differences c.args.before c.args.run.now) in
    let w = c.longest_group-size.ensures.within in
    omega (arith, c.requires)
