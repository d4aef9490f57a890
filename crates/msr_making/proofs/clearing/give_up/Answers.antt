use Rattle.msr_making.proofs.Cleared.{then_swept}
use Rattle.msr_making.proofs.clearing.give_up.Goals as goal

pub returns-clause-told : goal.returns-clause-told
returns-clause-told g c = c.end_refused-end.ensures.told

pub returns-clause-goes : goal.returns-clause-goes
returns-clause-goes g c = then_swept c.args.input.now c.args.files.now c.args.asked.now c.args.why c.end_refused-end.result c.sweep-is_swept.result c.beside.result _ _ _ c.beside.ensures.stamp c.beside.ensures.rest c.end_refused-end.ensures.goes c.sweep-is_swept.ensures
