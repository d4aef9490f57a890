use Rattle.std.proofs.Common.{rules, sym, ◌∙◌}
use Rattle.std.proofs.lemmas.Bool.{true≢false}
use Rattle.msr_input.proofs.Strict.{alone_agreed, alone_before, alone_lenient, alone_unsaid}
use Rattle.msr_input.proofs.step.fault_of.Goals as goal

pub returns-in_default-clause-refused : goal.returns-in_default-clause-refused
returns-in_default-clause-refused c = λ other.
    alone_before c.args.strict c.args.bytes.now c.args.kind (c.requires other) (λ e. c.in_default.not-TimeRange e)

pub returns-then-not-strict-clause-refused : goal.returns-then-not-strict-clause-refused
returns-then-not-strict-clause-refused c = λ other. rw c.if-not-strict.true
    (alone_lenient c.args.bytes.now c.args.kind (c.requires other))

pub returns-in_default-reverse_in-clause-refused : goal.returns-in_default-reverse_in-clause-refused
returns-in_default-reverse_in-clause-refused c = λ other.
    alone_agreed c.args.strict c.args.bytes.now c.args.kind _ c.in_default-reverse_in.ensures.some
    (λ e. true≢false (sym c.in_default-reverse_in.field-0-test ∙ e)) (c.requires other)

pub returns-in_default-reverse_in-2-clause-refused : goal.returns-in_default-reverse_in-2-clause-refused
returns-in_default-reverse_in-2-clause-refused c = λ other.
    alone_unsaid c.args.strict c.args.bytes.now c.args.kind c.in_default-reverse_in.ensures.none (c.requires other)

pub returns-in-Some-false-clause-refused : goal.returns-in-Some-false-clause-refused
returns-in-Some-false-clause-refused c = search rules
