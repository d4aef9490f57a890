-- Words without differences are passed over.
use Rattle.std.proofs.Common.{◌++◌, ◌+◌, ap, ◌∙◌, arith, refl}
use Rattle.msr_steim.specs.InOrder.{differences_from}
use Rattle.msr_steim.proofs.InOrderLemmas.{fields_differences, one_word, passed_empty, passed_undefined}
use Rattle.msr_steim.proofs.borrowed.next_fields.Goals as goal

pub returns-then-fields-gt0-clause-some : goal.returns-then-fields-gt0-clause-some
returns-then-fields-gt0-clause-some c =
    let version = c.args.version in
    let order = c.args.order in
    let area = c.args.area.now in
    let number = c.loop-number.number in
    c.loop-number.invariant ∙ one_word version order area number c.loop-number-test.true
    ∙ ap (λ ds. ds ++ differences_from version order area (number + 1))
    (fields_differences version order area number c.in-Some.fields c.in-Some.ensures.some)

pub loop-number-preserved : goal.loop-number-preserved
loop-number-preserved c =
    c.loop-number.invariant ∙ passed_empty c.args.version c.args.order c.args.area.now c.loop-number.number
    c.in-Some.fields c.loop-number-test.true c.in-Some.ensures.some (omega (arith, c.if-fields-gt0.false))

pub loop-number-preserved-in_default : goal.loop-number-preserved-in_default
loop-number-preserved-in_default c =
    c.loop-number.invariant ∙ passed_undefined c.args.version c.args.order c.args.area.now c.loop-number.number
    c.loop-number-test.true (c.in_default.ensures.none refl)
