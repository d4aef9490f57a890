use Rattle.msr_packer.proofs.Holding.{gives_again}
use Rattle.msr_packer.proofs.held.HeldSamples.next_piece.Goals as goal

pub returns-clause-given : goal.returns-clause-given
returns-clause-given c =
    gives_again c.args.self.now c.step_past.new.self c.step_past-2.new.self c.step_past-2.result
    c.in_default.ensures.given c.step_past-2.ensures.given

pub returns-clause-stays : goal.returns-clause-stays
returns-clause-stays c = λ enough stays.
    let given = c.in_default.ensures.given in
    (rw (given.form, given.held) at c.step_past-2.ensures.stays) enough (c.in_default.ensures.stays enough stays)

pub returns-clause-sizes : goal.returns-clause-sizes
returns-clause-sizes c = λ knows. c.step_past-2.ensures.sizes (c.in_default.ensures.sizes knows)
