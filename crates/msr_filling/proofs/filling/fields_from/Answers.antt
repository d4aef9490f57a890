-- One more field.
use Rattle.std.proofs.Common.{rules, arith, ◌≡◌, ◌<◌, ◌+◌, ◌-◌, ◌∙◌, drop, take, get_or, pos, subst, sym, w64, SFits, bit_or, ◌*◌, ◌%◌, ◌^◌}
use Rattle.std.proofs.lemmas.Int.{to_z-of_z}
use Rattle.std.proofs.lemmas.List.{length-drop}
use Rattle.msr_steim.specs.Word.{FitsBits, joined_fields, twos_complement}
use Rattle.msr_words.specs.Segment.{differences}
use Rattle.msr_words.proofs.Plain.{difference_behind, length-differences}
use Rattle.msr_filling.proofs.FillFields.{all_lt, fields_more, fits_there}
use Rattle.msr_filling.proofs.filling.fields_from.Goals as goal

pub loop-next-preserved : goal.loop-next-preserved
loop-next-preserved c =
    let xs = drop c.args.at (differences c.args.before c.args.run.now) in
    let i = c.loop-next.next - c.args.at in
    let diff : SFits w64 c.difference_after-difference.result = search rules in
    let long = length-differences c.args.before c.args.run.now in
    let l = length-drop c.args.at (differences c.args.before c.args.run.now) in
    let here : get_or (drop c.args.at (differences c.args.before c.args.run.now)) (c.loop-next.next - c.args.at)
    (pos 0) ≡ c.difference_after-difference.result =
    difference_behind c.args.before c.args.run.now c.args.at c.loop-next.next (omega arith) (omega arith)
    ∙ sym c.difference_after-difference.ensures in
    let fits : FitsBits c.args.width c.difference_after-difference.result = subst (FitsBits c.args.width) here
    (fits_there c.args.width c.args.size xs c.requires.positive c.requires.within
    (omega (arith, c.requires.room)) c.requires.fit (c.loop-next.next - c.args.at) (omega arith)) in
    let same = simp to_z-of_z at c.field_of.ensures.same in
    let field : c.field_of.result ≡ twos_complement c.args.width c.difference_after-difference.result = same fits in
    let one : (c.loop-next.next - c.args.at) + 1 ≡ c.loop-next.next + 1 - c.args.at = omega arith in
    let more = fields_more c.args.width c.args.size xs c.requires.positive c.requires.within
    (omega (arith, c.requires.room)) c.requires.fit i c.loop-next.fields c.field_of.result
    (omega arith) c.loop-next.invariant (rw here field) in
    subst (λ n. bit_or ((c.loop-next.fields * 2 ^ c.args.width) % 2 ^ 64) c.field_of.result
    ≡ joined_fields c.args.width (take n (drop c.args.at (differences c.args.before c.args.run.now)))) one more

pub overflow_cast-result : goal.overflow_cast-result
overflow_cast-result c =
    let xs = drop c.args.at (differences c.args.before c.args.run.now) in
    let long = length-differences c.args.before c.args.run.now in
    let l = length-drop c.args.at (differences c.args.before c.args.run.now) in
    let all = all_lt c.args.width c.args.size xs c.requires.positive c.requires.within
    (omega (arith, c.requires.room)) c.requires.fit (c.loop-next.next - c.args.at) c.loop-next.fields
    (omega arith) c.loop-next.invariant in
    let bound : c.loop-next.fields < 4294967296 = all.2 in
    search (rules, bound)

pub returns-clause-same : goal.returns-clause-same
returns-clause-same c =
    let xs = drop c.args.at (differences c.args.before c.args.run.now) in
    let long = length-differences c.args.before c.args.run.now in
    let l = length-drop c.args.at (differences c.args.before c.args.run.now) in
    let all = all_lt c.args.width c.args.size xs c.requires.positive c.requires.within
    (omega (arith, c.requires.room)) c.requires.fit (c.loop-next.next - c.args.at) c.loop-next.fields
    (omega arith) c.loop-next.invariant in
    all.0

pub returns-clause-few : goal.returns-clause-few
returns-clause-few c =
    let xs = drop c.args.at (differences c.args.before c.args.run.now) in
    let long = length-differences c.args.before c.args.run.now in
    let l = length-drop c.args.at (differences c.args.before c.args.run.now) in
    let all = all_lt c.args.width c.args.size xs c.requires.positive c.requires.within
    (omega (arith, c.requires.room)) c.requires.fit (c.loop-next.next - c.args.at) c.loop-next.fields
    (omega arith) c.loop-next.invariant in
    all.1
