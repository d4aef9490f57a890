-- The layout's word holds the group.
use Rattle.std.proofs.Common.{refl, rules, sym}
use Rattle.msr_steim.proofs.Words.{layout_word, group_word_is}
use Rattle.msr_steim.proofs.word.write_word.Goals as goal

pub overflow_add-result : goal.overflow_add-result
overflow_add-result c =
    let bound = (layout_word c.args.version c.args.differences.now c.in_ok-layout.layout c.in_ok-fields.fields _
    c.in_ok-layout.ensures.0 (c.in_ok-fields.ensures.fit.0 refl) c.in_ok-fields.ensures.same refl).0 in
    search (rules, bound)

pub returns-clause-word : goal.returns-clause-word
returns-clause-word c = (layout_word c.args.version c.args.differences.now c.in_ok-layout.layout c.in_ok-fields.fields _
    c.in_ok-layout.ensures.0 (c.in_ok-fields.ensures.fit.0 refl) c.in_ok-fields.ensures.same refl).1

pub returns-clause-zeros : goal.returns-clause-zeros
returns-clause-zeros c =
    (layout_word c.args.version c.args.differences.now c.in_ok-layout.layout c.in_ok-fields.fields _
    c.in_ok-layout.ensures.0 (c.in_ok-fields.ensures.fit.0 refl) c.in_ok-fields.ensures.same refl).2

pub returns-clause-same : goal.returns-clause-same
returns-clause-same c =
    let made = layout_word c.args.version c.args.differences.now c.in_ok-layout.layout c.in_ok-fields.fields _
    c.in_ok-layout.ensures.0 (c.in_ok-fields.ensures.fit.0 refl) c.in_ok-fields.ensures.same refl in (
      sym c.in_ok-layout.ensures.2,
      group_word_is c.args.version c.args.differences.now c.in_ok-layout.layout _
          c.in_ok-layout.ensures.1 c.in_ok-layout.ensures.3 made.3,
    )
