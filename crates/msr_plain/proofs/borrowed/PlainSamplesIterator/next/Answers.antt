-- The first number is given, and the others are left.
use Rattle.std.proofs.Common.{rules, ◌≡◌, ◌<◌, ◌∷◌, ◌-◌, [], length, take, drop, w32, SFits, sym, ap, ◌∙◌, arith}
use Rattle.std.proofs.lemmas.Int.{to_z-of_z}
use Rattle.msr_base.proofs.IteratorLemmas.{first_given}
use Rattle.msr_plain.specs.Plain.{numbers_in_area}
use Rattle.msr_plain.proofs.InOrder.{first_number}
use Rattle.msr_plain.proofs.borrowed.PlainSamplesIterator.next.Goals as goal

pub returns-then-self-eq0-clause-steps : goal.returns-then-self-eq0-clause-steps
returns-then-self-eq0-clause-steps c =
    let old = c.self.inside in
    let none : c.args.self.now ≡ [] = sym c.self.view_is
    ∙ ap (numbers_in_area old.width old.order old.bytes.now) c.if-self-eq0.true in
    (none, none)

pub returns-clause-steps : goal.returns-clause-steps
returns-clause-steps c =
    let old = c.self.inside in
    let given = c.read_number-sample.result in
    let fits : SFits w32 given = search rules in
    let some : 0 < old.left = omega (arith, c.if-self-eq0.false) in
    sym c.self.view_is ∙ first_number old.width old.order old.bytes.now old.left c.bytes.result some c.bytes.ensures
    ∙ ap (λ x. x ∷ numbers_in_area old.width old.order
    (take (length old.bytes.now - c.bytes.result) (drop c.bytes.result old.bytes.now)) (old.left - 1)) (sym
    (to_z-of_z w32 given fits ∙ c.read_number-sample.ensures))

pub returns-clause-goes : goal.returns-clause-goes
returns-clause-goes c = first_given (λ left. left) _ _ _ (returns-clause-steps c)
