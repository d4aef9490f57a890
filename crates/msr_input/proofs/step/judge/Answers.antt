use Rattle.std.proofs.Common.{sym, ◌∙◌}
use Rattle.msr_input.proofs.Strict.{alone_mismatched}
use Rattle.msr_input.proofs.step.judge.Goals as goal

pub returns-then-not-reverse_agrees-clause-refused : goal.returns-then-not-reverse_agrees-clause-refused
returns-then-not-reverse_agrees-clause-refused g c = λ other.
    let judged = c.in-Ok.ensures.found in
    let agrees = c.reverse_agrees.ensures judged.found judged.stands_for in
    alone_mismatched c.args.strict c.args.bytes.now judged.found judged.is_record c.if-strict.true
    (sym agrees ∙ c.if-not-reverse_agrees.true)
